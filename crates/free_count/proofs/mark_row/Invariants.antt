-- `free_count::mark_row` meets its contract: unmarked is what was unmarked and is not among the numbers of the row before `number`. Assumes nothing.
use mathlib.Core.Path.{◌≡◌}
use lib.ListN.{length}
use Rattle.free_count.proofs.Marks.{Unmarked, not_at}
use Rattle.free_count.proofs.mark_row.Given as goal

abbrev pub invariant-loop-number : goal.invariant-loop-number
invariant-loop-number l = (length l.marks ≡ length l.initial.marks) × Unmarked (not_at l.row) l.initial.marks l.number-index l.marks
