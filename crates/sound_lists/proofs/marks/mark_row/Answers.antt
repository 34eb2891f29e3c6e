-- `sound_lists::marks::mark_row` meets its contract: the first numbers of the row are marked. Assumes nothing.
use Prim.Native.Nat.{◌<◌}
use native.Mathlib.Omega.{arith}
use lib.ListN.{get_or}
use Rattle.sound_lists.proofs.Marking.{all_none, all_more}
use Rattle.sound_lists.proofs.marks.mark_row.Goals as goal

pub loop-cell-init : goal.loop-cell-init
loop-cell-init c = all_none _ _

pub overflow_cast-marks : goal.overflow_cast-marks
overflow_cast-marks c =
    let low : get_or c.args.row.now c.loop-cell.cell-index 0 < 1024 = c.requires c.loop-cell.cell-index (omega arith) in
    omega arith

pub bounds-marks-cell : goal.bounds-marks-cell
bounds-marks-cell c = c.requires _ (omega arith)

pub loop-cell-preserved : goal.loop-cell-preserved
loop-cell-preserved c = all_more _ _ c.loop-cell.cell-index _ c.loop-cell.invariant
