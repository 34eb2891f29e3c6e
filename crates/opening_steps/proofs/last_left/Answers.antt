use Rattle.opening_steps.proofs.Steps.{leaving}
use Rattle.opening_steps.proofs.last_left.Goals as goal

pub holds-requires : goal.holds-requires
holds-requires c = search leaving

pub returns-then-holds-held : goal.returns-then-holds-held
returns-then-holds-held c = search leaving

pub returns : goal.returns
returns c = search leaving
