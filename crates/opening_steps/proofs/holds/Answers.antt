use Rattle.opening_steps.proofs.Steps.{counts}
use Rattle.opening_steps.proofs.holds.Goals as goal

pub returns : goal.returns
returns c = search counts
