-- `sound_clashes::kin` meets its contract. Assumes nothing.
use mathlib.Core.Path.{sym}
use borrow.Author.Tests.{eq-eqb, ne_eqb}
use Rattle.combine.specs.Laws.Below.{or_left}
use Rattle.tables.specs.Layout.{record_of}
use Rattle.sound_clashes.specs.Halves.{kinb}
use Rattle.sound_clashes.proofs.kin.Goals as goal

pub returns-then-left-right : goal.returns-then-left-right
unfolding kinb record_of
returns-then-left-right c = sym (or_left _ _ (eq-eqb _ _ c.if-left-right.true))

pub returns-then-left-ne0 : goal.returns-then-left-ne0
unfolding kinb record_of
returns-then-left-ne0 c = simp (ne_eqb _ _ c.if-left-right.false, ne_eqb _ _ c.if-left-ne0.true)

pub returns : goal.returns
unfolding kinb record_of
returns c = simp (ne_eqb _ _ c.if-left-right.false, eq-eqb _ _ c.if-left-ne0.false)
