-- `write_plan::append` meets its contract. Assumes nothing.
use Rattle.write_plan.proofs.Appends.{appends}
use Rattle.write_plan.proofs.append.Goals as goal

pub returns-then-wide : goal.returns-then-wide
returns-then-wide c = search appends

pub returns-then-last : goal.returns-then-last
returns-then-last c = search appends

pub holds-requires : goal.holds-requires
holds-requires c = search appends

pub returns-then-holds-gt-MOST_HELD : goal.returns-then-holds-gt-MOST_HELD
returns-then-holds-gt-MOST_HELD c = search appends

pub seat-requires : goal.seat-requires
seat-requires c = search appends

pub returns : goal.returns
returns c = search appends
