-- `sound_names::names_sound` meets its contract: the keys before place `p` are there, and no record before it clashes. Assumes nothing.
use mathlib.Core.Path.{◌≡◌}
use mathlib.Core.Bool.{true}
use Rattle.combine.specs.Below.{all_below}
use Rattle.tables.specs.Records.{no_clashb}
use Rattle.sound_names.specs.Keys.{Keyed}
use Rattle.sound_names.proofs.Stored.{Rest}
use Rattle.sound_names.proofs.names_sound.Given as goal

abbrev pub invariant-loop-p : goal.invariant-loop-p
invariant-loop-p l = Keyed l.tables l.keys.high l.keys.low l.keys.owned l.keys.public l.p × Rest l.keys.high l.keys.low l.p × (all_below l.p (no_clashb l.tables) ≡ true)
