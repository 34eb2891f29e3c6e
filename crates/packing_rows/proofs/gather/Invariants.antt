-- `packing_rows::gather` meets its contract. Assumes nothing.
use Prim.Native.Nat.{ℕ, ◌+◌, ◌-◌}
use mathlib.Core.Path.{◌≡◌}
use lib.ListN.{length, take}
use Rattle.packing.specs.Packing.{sum}
use Rattle.packing_rows.specs.Waiting.{Begun, Packs}
use Rattle.packing_rows.proofs.gather.Given as goal

abbrev pub invariant-loop-waiting : goal.invariant-loop-waiting
invariant-loop-waiting l =
    let w = l.waiting in
    let from = l.initial.waiting in
    Begun l.widths w.number w.bits w.next
    × (sum (take w.next l.widths) + from.bits ≡ sum (take from.next l.widths) + w.bits)
    × ((row : ℕ) → Packs l.widths l.values row from.number from.bits from.next → Packs l.widths l.values row w.number w.bits w.next)

abbrev pub decreases-loop-waiting : goal.decreases-loop-waiting
decreases-loop-waiting l = length l.widths - l.waiting.next
