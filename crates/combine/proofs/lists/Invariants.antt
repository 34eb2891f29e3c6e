-- `combine::lists` meets its contract: `times` is 0 exactly if none of the numbers before this one is the one
-- sought. Assumes nothing.
use Prim.Native.Nat.{◌≤◌}
use mathlib.Core.Path.{◌≡◌}
use mathlib.Core.Bool.{not}
use lib.Dec.{eqb}
use lib.ListN.{get_or}
use Rattle.combine.specs.Below.{all_below}
use Rattle.combine.proofs.lists.Given as goal

abbrev pub invariant-loop-listed : goal.invariant-loop-listed
invariant-loop-listed l = (l.times ≤ l.listed-index) × (eqb l.times 0 ≡ all_below l.listed-index (λ j. not (eqb l.number (get_or l.row j 0))))
