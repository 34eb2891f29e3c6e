use mathlib.Core.Path.{ap}
use Rattle.opening_laws.specs.Deeded.{with_segments}
use Rattle.opening_steps.proofs.shift.Goals as goal

pub returns : goal.returns
returns c = ap (with_segments c.args.opening) c.from_second-rest.ensures
