-- `free_count::unmarked` meets its contract: `count` is the count below the index of `mark`. Assumes nothing.
use Prim.Native.Nat.{◌≤◌}
use mathlib.Core.Path.{◌≡◌}
use lib.Dec.{eqb}
use lib.ListN.{get_or}
use Rattle.combine.specs.Below.{count_below}
use Rattle.free_count.proofs.unmarked.Given as goal

abbrev pub invariant-loop-mark : goal.invariant-loop-mark
invariant-loop-mark l = (l.count ≤ l.mark-index) × (l.count ≡ count_below l.mark-index (λ j. eqb (get_or l.marks j 0) 0))
