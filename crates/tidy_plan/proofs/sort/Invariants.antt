-- `tidy_plan::sort` meets its contract: the marks before `number` are kinds, the others as they were. Assumes nothing.
use Prim.Native.Nat.{ℕ, ◌≤◌, ◌<◌}
use mathlib.Core.Path.{◌≡◌}
use lib.ListN.{length, get_or}
use Rattle.tidy_plan.specs.Kinds.{kind_of}
use Rattle.tidy_plan.proofs.sort.Given as goal

abbrev pub invariant-loop-number : goal.invariant-loop-number
invariant-loop-number l = (length l.marks ≡ 1024) × ((g : ℕ) → g < l.number → get_or l.marks g 0 ≡ kind_of (get_or l.initial.marks g 0) g l.low)
    × ((g : ℕ) → l.number ≤ g → get_or l.marks g 0 ≡ get_or l.initial.marks g 0)
