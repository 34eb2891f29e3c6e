-- `image_code::is_blank` meets its contract. Assumes nothing.
use Prim.Native.Nat.{◌-◌}
use mathlib.Core.Path.{◌∙◌}
use native.Mathlib.Omega.{arith}
use borrow.Author.Tests.{ne_eqb}
use lib.ListN.{length}
use Rattle.combine.specs.Laws.Below.{loop-false}
use Rattle.image_code.specs.Widths.{fewest_cells}
use Rattle.image_code.specs.Blank.{all-by-first}
use Rattle.image_code.proofs.is_blank.Goals as goal

pub returns-then-cells-ne0 : goal.returns-then-cells-ne0
returns-then-cells-ne0 c =
    loop-false _ (length c.args.cells.now) 0 (omega (arith, c.requires.0)) (ne_eqb _ _ c.if-cells-ne0.true)

pub returns-then-cells-ne0-2 : goal.returns-then-cells-ne0-2
returns-then-cells-ne0-2 c =
    let n = length c.args.cells.now in
    loop-false _ n (n - 1) (omega (arith, c.requires.0)) (ne_eqb _ _ c.if-cells-ne0-2.true)

pub returns : goal.returns
returns c =
    c.all_zero.ensures ∙ all-by-first c.args.cells.now fewest_cells c.requires.0 c.requires.1 c.if-cells-ne0-2.false
