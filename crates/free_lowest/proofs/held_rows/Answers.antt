-- `free_lowest::held_rows` meets its contract: the rows are those of the first lists, without the empty ones. Assumes nothing.
use native.Mathlib.Omega.{arith}
use mathlib.Core.Path.{◌∙◌}
use lib.ListN.{length-set}
use Rattle.free_lowest.proofs.Search.{rows_start, rows-turn}
use Rattle.free_lowest.proofs.held_rows.Goals as goal

pub loop-list-init : goal.loop-list-init
loop-list-init c = (rows_start _ _, c.requires.1)

pub loop-list-preserved : goal.loop-list-preserved
loop-list-preserved c =
    let l = c.loop-list in
    (rows-turn _ l.rows l.list l.held _ c.row_start.ensures c.held_in-count.ensures (omega (arith, l.invariant.0.few)) l.invariant.0, length-set l.rows l.held _ ∙ l.invariant.1)
