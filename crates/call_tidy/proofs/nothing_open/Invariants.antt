-- `call_tidy::nothing_open` meets its contract: no entry below `entry` is open. Assumes nothing.
use mathlib.Core.Path.{◌≡◌}
use mathlib.Core.Bool.{true}
use Rattle.combine.specs.Below.{all_below}
use Rattle.call_tidy.proofs.Laws.{closed}
use Rattle.call_tidy.proofs.nothing_open.Given as goal

abbrev pub invariant-loop-entry : goal.invariant-loop-entry
invariant-loop-entry l = all_below l.entry (closed l.tables) ≡ true
