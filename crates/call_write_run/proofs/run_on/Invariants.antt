use Prim.Native.Nat.{◌≤◌, ◌-◌}
use mathlib.Core.Path.{◌≡◌}
use lib.ListN.{length}
use Rattle.cells.specs.Outcomes.{lent}
use Rattle.run_laws.specs.Singles.{uses_on, writes_of}
use Rattle.call_write_run.specs.Turned.{wrote}
use Rattle.call_write_run.proofs.Going.{Going}
use Rattle.call_write_run.proofs.run_on.Given as goal

abbrev pub invariant-loop-n : goal.invariant-loop-n
invariant-loop-n l = (l.n ≤ length l.list) × (length l.store ≡ length l.initial.store) × (length l.tables ≡ length l.initial.tables) × Going l.entry l.pointer l.list (wrote l.list 0 (uses_on l.entry (writes_of l.pointer l.list) (lent l.initial.store l.initial.tables))) l.n l.store l.tables

abbrev pub decreases-loop-n : goal.decreases-loop-n
decreases-loop-n l = length l.list - l.n
