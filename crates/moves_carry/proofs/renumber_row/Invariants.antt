-- `moves_carry::renumber_row` meets its contract: the numbers passed are replaced, and the others are as they were. Assumes nothing.
use Prim.Native.Nat.{ℕ, ◌<◌, ◌≤◌}
use mathlib.Core.Path.{◌≡◌}
use lib.ListN.{get_or}
use Rattle.moves_carry.specs.Numbers.{mapped}
use Rattle.moves_carry.proofs.renumber_row.Given as goal

abbrev pub invariant-loop-cell : goal.invariant-loop-cell
invariant-loop-cell l = ((j : ℕ) → j < l.cell-index → get_or l.row j 0 ≡ mapped l.numbers (get_or l.initial.row j 0))
    × ((j : ℕ) → l.cell-index ≤ j → get_or l.row j 0 ≡ get_or l.initial.row j 0)
