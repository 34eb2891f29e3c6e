-- `sound_records::used_sound` meets its contract. Assumes nothing.
use mathlib.Core.Path.{sym, ◌∙◌}
use mathlib.Core.Bool.{true-and}
use borrow.Author.Tests.{eq-eqb, ne_eqb, le-leb, lt-leb}
use Rattle.combine.specs.Rows.{all_of}
use Rattle.combine.specs.Lists.{part}
use Rattle.combine.specs.Laws.Rows.{one-bad}
use Rattle.tables.specs.Layout.{record_of}
use Rattle.tables.specs.Records.{usedb}
use Rattle.sound_extents.specs.Extent.{contentb}
use Rattle.sound_records.proofs.used_sound.Goals as goal

pub returns-then-cells-ne1 : goal.returns-then-cells-ne1
unfolding usedb record_of
returns-then-cells-ne1 c = one-bad _ 0 (ne_eqb _ _ c.if-cells-ne1.true)

pub returns-then-not-name_sound : goal.returns-then-not-name_sound
unfolding usedb record_of part
returns-then-not-name_sound c = one-bad _ 1 (sym c.name_sound.ensures ∙ c.if-not-name_sound.true)

pub returns-then-cells-gt-GREATEST_USER : goal.returns-then-cells-gt-GREATEST_USER
unfolding usedb record_of
returns-then-cells-gt-GREATEST_USER c = one-bad _ 2 (lt-leb _ _ c.if-cells-gt-GREATEST_USER.true)

pub returns-then-cells-gt1 : goal.returns-then-cells-gt1
unfolding usedb record_of
returns-then-cells-gt1 c = one-bad _ 3 (lt-leb _ _ c.if-cells-gt1.true)

pub returns : goal.returns
unfolding usedb record_of part contentb all_of
returns c =
    simp (
      eq-eqb _ _ c.if-cells-ne1.false,
      sym c.name_sound.ensures ∙ c.if-not-name_sound.false,
      le-leb _ _ c.if-cells-gt-GREATEST_USER.false,
      le-leb _ _ c.if-cells-gt1.false,
      true-and,
    )
    c.content_sound.ensures
