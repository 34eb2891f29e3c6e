-- `free_count::mark_lists` meets its contract: unmarked is what was unmarked and is in none of the first `list` lists. Assumes nothing.
use mathlib.Core.Path.{◌≡◌}
use lib.ListN.{length}
use Rattle.free_count.proofs.Marks.{Unmarked, not_in}
use Rattle.free_count.proofs.mark_lists.Given as goal

abbrev pub invariant-loop-list : goal.invariant-loop-list
invariant-loop-list l = (length l.marks ≡ 1024) × Unmarked (not_in l.tables) l.initial.marks l.list l.marks
