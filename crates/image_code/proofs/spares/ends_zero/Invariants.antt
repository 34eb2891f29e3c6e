-- `image_code::spares::ends_zero` meets its contract: all records before `p` passed the test. Assumes nothing.
use mathlib.Core.Path.{◌≡◌}
use mathlib.Core.Bool.{true}
use Rattle.combine.specs.Below.{all_below}
use Rattle.image.specs.Image.{form2, record_part, spareb}
use Rattle.image_code.proofs.spares.ends_zero.Given as goal

abbrev pub invariant-loop-p : goal.invariant-loop-p
invariant-loop-p l = all_below l.p (λ q. spareb form2 (record_part form2 l.image q)) ≡ true
