-- `sound_lists::mark_changed` meets its contract: the changed ones of the first `k` segments are marked. Assumes nothing.
use Prim.Native.Nat.{◌≤◌}
use Rattle.sound_lists.specs.Marks.{Marked}
use Rattle.sound_lists.specs.Rows.{cell_from}
use Rattle.sound_lists.specs.Shared.{changed}
use Rattle.sound_lists.proofs.mark_changed.Given as goal

abbrev pub invariant-loop-k : goal.invariant-loop-k
invariant-loop-k l = (l.set ≤ l.k)
    × Marked (changed (cell_from l.tables l.fn.row.start) l.fn.row.first (cell_from l.tables l.filed.start) l.filed.held l.filed.first) (cell_from l.tables l.fn.row.start) l.initial.marks l.k l.marks l.set
