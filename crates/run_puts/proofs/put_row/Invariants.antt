-- `run_puts::put_row` meets its contract: the numbers before the next one are put. Assumes nothing.
use Prim.Native.Nat.{◌+◌, ◌*◌}
use mathlib.Core.Path.{◌≡◌}
use lib.ListN.{length}
use Rattle.run_puts.specs.Puts.{put_row}
use Rattle.run_puts.proofs.put_row.Given as goal

abbrev pub invariant-loop-number : goal.invariant-loop-number
invariant-loop-number l = (length l.store ≡ length l.initial.store) × (l.bits ≡ l.from + l.number-index * l.width) × (l.store ≡ put_row l.initial.store l.from l.width l.list l.number-index)
