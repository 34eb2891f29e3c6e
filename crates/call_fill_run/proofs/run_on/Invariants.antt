-- `call_fill_run::run_on` meets its contract: what is filled, and then the rest, is the whole. Assumes nothing.
use Prim.Native.Nat.{◌-◌}
use mathlib.Core.Path.{◌≡◌}
use lib.ListN.{length}
use Rattle.cells.specs.Outcomes.{lent}
use Rattle.cells.specs.Runs.{filled_by}
use Rattle.run_laws.specs.Singles.{uses_on, nexts_of}
use Rattle.call_fill_run.proofs.Filling.{Filling}
use Rattle.call_fill_run.proofs.run_on.Given as goal

abbrev pub invariant-loop-n : goal.invariant-loop-n
invariant-loop-n l = (length l.tables ≡ length l.initial.tables) × (length l.list ≡ length l.initial.list) × Filling l.entry l.pointer (filled_by l.pointer l.initial.list (uses_on l.entry (nexts_of l.pointer l.initial.list) (lent l.store l.initial.tables))) l.n l.store l.tables l.list

abbrev pub decreases-loop-n : goal.decreases-loop-n
decreases-loop-n l = length l.list - l.n
