-- `names::is_scratch` meets its contract. Assumes nothing.
use native.Mathlib.Omega.{arith}
use Rattle.names.specs.Names.{is_scratch}
use Rattle.names.proofs.Within.{within}
use Rattle.names.proofs.is_scratch.Goals as goal

pub returns : goal.returns
unfolding is_scratch
returns c = rw (within c.args.name 0 0 63 (omega arith))
