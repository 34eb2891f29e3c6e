-- `tables_rows::put_pointers` meets its contract: the cells before `i` are the numbers of the list's. Assumes nothing.
use Prim.Native.Nat.{ℕ, ◌<◌}
use mathlib.Core.Path.{◌≡◌}
use lib.ListN.{get_or}
use Rattle.placing.specs.Placing.{position}
use Rattle.tables.specs.Layout.{position_number}
use Rattle.tables_rows.proofs.put_pointers.Given as goal

abbrev pub invariant-loop-i : goal.invariant-loop-i
invariant-loop-i l = (k : ℕ) → k < l.i → get_or l.row k 0 ≡ position_number (get_or l.fn.pointers k (position 0))
