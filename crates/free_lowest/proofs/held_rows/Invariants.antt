-- `free_lowest::held_rows` meets its contract: the rows are those of the first lists, without the empty ones. Assumes nothing.
use mathlib.Core.Path.{◌≡◌}
use lib.ListN.{length}
use Rattle.placing.specs.Sizes.{lists}
use Rattle.free_lowest.specs.Held.{HeldRows}
use Rattle.free_lowest.proofs.held_rows.Given as goal

abbrev pub invariant-loop-list : goal.invariant-loop-list
invariant-loop-list l = HeldRows l.tables l.list l.held l.rows × (length l.rows ≡ lists)
