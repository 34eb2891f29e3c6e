-- `moves_carry::exchange_pairs` meets its contract: the numbers are exchanged by the pairs that were read. Assumes nothing.
use Prim.Native.Nat.{◌*◌, ◌≤◌}
use mathlib.Core.Path.{◌≡◌}
use lib.ListN.{length, drop}
use Rattle.moves_carry.proofs.Turns.{Maps}
use Rattle.moves_carry.proofs.exchange_pairs.Given as goal

abbrev pub invariant-loop-pair : goal.invariant-loop-pair
invariant-loop-pair l = (2 * l.pair ≤ length l.plan) × (length l.numbers ≡ 1024) × Maps l.numbers (drop (2 * l.pair) l.plan)
