-- `sound_links::alone` meets its contract: all entries before `other` passed the test. Assumes nothing.
use mathlib.Core.Path.{sym, ◌∙◌}
use native.Mathlib.Omega.{arith}
use Rattle.combine.specs.Laws.Below.{all-zero, all_more, loop-false}
use Rattle.sound_links.proofs.alone.Goals as goal

pub loop-other-init : goal.loop-other-init
loop-other-init c = all-zero _

pub returns-then-not-elsewhere : goal.returns-then-not-elsewhere
returns-then-not-elsewhere c = loop-false _ _ _ (omega arith) (sym c.elsewhere.ensures ∙ c.if-not-elsewhere.true)

pub loop-other-preserved : goal.loop-other-preserved
loop-other-preserved c = all_more _ _ c.loop-other.invariant (sym c.elsewhere.ensures ∙ c.if-not-elsewhere.false)
