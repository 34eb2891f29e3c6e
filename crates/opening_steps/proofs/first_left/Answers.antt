use Rattle.opening_steps.proofs.Steps.{leaving}
use Rattle.opening_steps.proofs.first_left.Goals as goal

pub holds-requires : goal.holds-requires
holds-requires c = search leaving

pub returns-then-holds : goal.returns-then-holds
returns-then-holds c = search leaving

pub returns : goal.returns
returns c = search leaving
