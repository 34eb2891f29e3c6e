-- `sound_reading::may_read` meets its contract. Assumes nothing.
use native.Mathlib.Omega.{arith}
use borrow.Author.Tests.{eq-eqb, ne_eqb}
use Rattle.tables.specs.Layout.{record_of}
use Rattle.sound_reading.proofs.Choices.{or-first, or-second}
use Rattle.sound_reading.proofs.may_read.Goals as goal

pub returns-then-filed-eq0 : goal.returns-then-filed-eq0
unfolding record_of
returns-then-filed-eq0 c = or-first _ _ (eq-eqb _ _ c.if-filed-eq0.true)

pub overflow_cast-result : goal.overflow_cast-result
overflow_cast-result c = omega (arith, c.type_inv.filed 13)

pub returns : goal.returns
unfolding record_of
returns c = or-second _ _ (ne_eqb _ _ c.if-filed-eq0.false)
