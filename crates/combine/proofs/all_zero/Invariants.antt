-- `combine::all_zero` meets its contract: the bits gathered are zero where all cells before this one are. Assumes
-- nothing.
use mathlib.Core.Path.{◌≡◌}
use lib.ListN.{get_or}
use lib.Dec.{eqb}
use Rattle.combine.specs.Below.{all_below}
use Rattle.combine.proofs.all_zero.Given as goal

abbrev pub invariant-loop-cell : goal.invariant-loop-cell
invariant-loop-cell l = eqb l.bits 0 ≡ all_below l.cell-index (λ k. eqb (get_or l.cells k 0) 0)
