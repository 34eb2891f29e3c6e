-- `free_lowest::row_after` meets its contract: by whether there is a row behind. Assumes nothing.
use mathlib.Core.Path.{sym}
use native.Mathlib.Omega.{arith}
use Rattle.free_lowest.specs.Round.{wrapped-before, wrapped-after}
use Rattle.free_lowest.proofs.row_after.Goals as goal

pub returns-then-row-rows : goal.returns-then-row-rows
returns-then-row-rows c = sym (wrapped-before _ _ c.if-row-rows.true)

pub returns : goal.returns
returns c =
    let e = wrapped-after _ _ c.if-row-rows.false in omega arith
