-- `numbers::value` meets its contract. Assumes nothing.
use mathlib.Core.Path.{ap, ◌∙◌}
use lib.IntN.{ℤ}
use mir.Syntax.{w32}
use mir.Val.{of_z, to_z}
use Rattle.numbers.specs.Numbers.{signed_of}
use Rattle.numbers.proofs.Laws.{read_back, value-fits, value-is}
use Rattle.numbers.proofs.value.Goals as goal

pub overflow_sub-result : goal.overflow_sub-result
overflow_sub-result c = rw (value-is c.args.bits) (value-fits c.args.bits)

pub returns : goal.returns
returns c =
    let b = c.args.bits in
    ap (λ (z : ℤ). to_z w32 (of_z w32 z)) (value-is b) ∙ read_back (signed_of b) (value-fits b)
