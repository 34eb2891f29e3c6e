-- `placing::width` meets its contract. Assumes nothing.
use mathlib.Core.Path.{refl}
use Rattle.placing.specs.Sizes.{width_of}
use Rattle.placing.proofs.width.Goals as goal

pub returns : goal.returns
unfolding width_of
returns c = refl
