-- `combine::all_below` meets its contract: `beyond` is zero where all cells before this one pass the test, and fits
-- by their number. Assumes nothing.
use Prim.Native.Nat.{◌≤◌}
use mathlib.Core.Path.{◌≡◌}
use lib.ListN.{get_or}
use lib.Dec.{eqb, ltb}
use Rattle.combine.specs.Below.{all_below}
use Rattle.combine.proofs.all_below.Given as goal

abbrev pub invariant-loop-cell : goal.invariant-loop-cell
invariant-loop-cell l = (l.beyond ≤ l.cell-index) × (eqb l.beyond 0 ≡ all_below l.cell-index (λ k. ltb (get_or l.cells k 0) l.bound))
