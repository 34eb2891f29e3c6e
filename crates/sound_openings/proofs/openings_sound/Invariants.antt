-- `sound_openings::openings_sound` meets its contract: all entries before `entry` passed the test. Assumes nothing.
use mathlib.Core.Path.{◌≡◌}
use mathlib.Core.Bool.{true}
use Rattle.combine.specs.Below.{all_below}
use Rattle.tables.specs.Openings.{openingb}
use Rattle.sound_openings.proofs.openings_sound.Given as goal

abbrev pub invariant-loop-entry : goal.invariant-loop-entry
invariant-loop-entry l = all_below l.entry (openingb l.tables) ≡ true
