-- `sound::sound` meets its contract. Assumes nothing.
use mathlib.Core.Path.{sym, ◌∙◌}
use borrow.Author.Tests.{ne_eqb, leb-true}
use Rattle.combine.specs.Laws.Rows.{one-bad, each_of}
use Rattle.tables.specs.Sound.{numberb, soundb}
use Rattle.sound.proofs.Order.{distinct-last}
use Rattle.sound.proofs.sound.Goals as goal

pub returns-then-tables-ne-TABLES_LENGTH : goal.returns-then-tables-ne-TABLES_LENGTH
unfolding soundb
returns-then-tables-ne-TABLES_LENGTH c = one-bad _ 0 (ne_eqb _ _ c.if-tables-ne-TABLES_LENGTH.true)

pub returns-then-not-number_sound : goal.returns-then-not-number_sound
unfolding soundb
returns-then-not-number_sound c = one-bad _ 4 (sym c.number_sound.ensures ∙ c.if-not-number_sound.true)

pub returns-then-not-records_sound : goal.returns-then-not-records_sound
unfolding soundb
returns-then-not-records_sound c = one-bad _ 1 (sym c.records_sound.ensures ∙ c.if-not-records_sound.true)

pub returns-then-not-openings_sound : goal.returns-then-not-openings_sound
unfolding soundb
returns-then-not-openings_sound c = one-bad _ 2 (sym c.openings_sound.ensures ∙ c.if-not-openings_sound.true)

pub distinct-requires : goal.distinct-requires
unfolding numberb
distinct-requires c =
    let n = sym c.number_sound.ensures ∙ c.if-not-number_sound.false in
    let p = sym c.records_sound.ensures ∙ c.if-not-records_sound.false in
    let o = sym c.openings_sound.ensures ∙ c.if-not-openings_sound.false in
    (c.if-tables-ne-TABLES_LENGTH.false, p, o, leb-true _ _ (each_of _ n).1.0)

pub returns : goal.returns
returns c =
    let n = sym c.number_sound.ensures ∙ c.if-not-number_sound.false in
    let p = sym c.records_sound.ensures ∙ c.if-not-records_sound.false in
    let o = sym c.openings_sound.ensures ∙ c.if-not-openings_sound.false in
    distinct-last _ _ _ c.if-tables-ne-TABLES_LENGTH.false n p o c.distinct.ensures
