-- `sound_openings::openings_sound` meets its contract: all entries before `entry` passed the test. Assumes nothing.
use mathlib.Core.Path.{sym, ◌∙◌}
use native.Mathlib.Omega.{arith}
use Rattle.combine.specs.Laws.Below.{all-zero, all_more, loop-true, loop-false}
use Rattle.tables.specs.Openings.{openingsb}
use Rattle.sound_openings.proofs.openings_sound.Goals as goal

pub loop-entry-init : goal.loop-entry-init
loop-entry-init c = all-zero _

pub returns-then-not-opening_sound : goal.returns-then-not-opening_sound
unfolding openingsb
returns-then-not-opening_sound c = loop-false _ _ _ (omega arith) (sym c.opening_sound.ensures ∙ c.if-not-opening_sound.true)

pub loop-entry-preserved : goal.loop-entry-preserved
loop-entry-preserved c = all_more _ _ c.loop-entry.invariant (sym c.opening_sound.ensures ∙ c.if-not-opening_sound.false)

pub returns : goal.returns
unfolding openingsb
returns c = loop-true _ _ _ (omega arith) (omega arith) c.loop-entry.invariant
