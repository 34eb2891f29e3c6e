-- `sound_links::work_sound` meets its contract. Assumes nothing.
use native.Mathlib.Omega.{arith}
use borrow.Author.Tests.{eq-eqb, ne_eqb}
use Rattle.combine.specs.Laws.Rows.{one-bad, all-last}
use Rattle.tables.specs.Layout.{record_of, opening_of}
use Rattle.tables.specs.Openings.{workb}
use Rattle.sound_links.proofs.work_sound.Goals as goal

pub overflow_cast-filed : goal.overflow_cast-filed
overflow_cast-filed c = omega (arith, c.type_inv.filed 13)

pub returns-then-filed-entry : goal.returns-then-filed-entry
unfolding workb record_of
returns-then-filed-entry c = one-bad _ 0 (ne_eqb _ _ c.if-filed-entry.true)

pub returns-then-filed-row : goal.returns-then-filed-row
unfolding workb record_of opening_of
returns-then-filed-row c = one-bad _ 1 (ne_eqb _ _ c.if-filed-row.true)

pub returns : goal.returns
unfolding workb record_of opening_of
returns c = all-last _ _ (eq-eqb _ _ c.if-filed-entry.false, (eq-eqb _ _ c.if-filed-row.false, c.alone.ensures))
