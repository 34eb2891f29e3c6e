-- `moves_carry::identity` meets its contract: each number below `number` is itself. Assumes nothing.
use Prim.Native.Nat.{ℕ, ◌<◌}
use mathlib.Core.Path.{◌≡◌}
use lib.ListN.{length, get_or}
use Rattle.moves_carry.proofs.identity.Given as goal

abbrev pub invariant-loop-number : goal.invariant-loop-number
invariant-loop-number l = (length l.numbers ≡ 1024) × ((g : ℕ) → g < l.number → get_or l.numbers g 0 ≡ g)
