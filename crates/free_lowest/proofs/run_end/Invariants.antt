-- `free_lowest::run_end` meets its contract: what is left of the row has the end of the whole. Assumes nothing.
use Prim.Native.Nat.{◌+◌, ◌≤◌}
use mathlib.Core.Path.{◌≡◌}
use lib.ListN.{drop}
use Rattle.free_lowest.specs.Run.{run_end}
use Rattle.free_lowest.proofs.run_end.Given as goal

abbrev pub invariant-loop-listed : goal.invariant-loop-listed
invariant-loop-listed l = (l.next ≤ l.number + l.listed-index) × (run_end l.row l.number ≡ run_end (drop l.listed-index l.row) l.next)
