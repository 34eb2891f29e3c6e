-- `run_takes::take_row` meets its contract: the first `n` elements are in the list. Assumes nothing.
use Prim.Native.Nat.{◌+◌, ◌*◌}
use mathlib.Core.Path.{◌≡◌}
use lib.ListN.{length}
use Rattle.run_takes.proofs.Laws.{Taking}
use Rattle.run_takes.proofs.take_row.Given as goal

abbrev pub invariant-loop-n : goal.invariant-loop-n
invariant-loop-n l = (length l.list ≡ length l.initial.list) × (l.bits ≡ l.first + l.n * l.width) × Taking l.store l.first l.width l.count l.initial.list l.from l.list l.n
