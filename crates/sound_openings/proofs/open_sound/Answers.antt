-- `sound_openings::open_sound` meets its contract: its tests are those of `openedb`. Assumes nothing.
use mathlib.Core.Path.{sym, ◌∙◌}
use borrow.Author.Tests.{eq-eqb, ne_eqb, le-leb, lt-leb}
use Rattle.combine.specs.Lists.{part}
use Rattle.combine.specs.Laws.Rows.{one-bad, all-last}
use Rattle.tables.specs.Layout.{opening_of}
use Rattle.sound_openings.specs.Opened.{openedb, opened-open}
use Rattle.sound_openings.proofs.Contents.{content}
use Rattle.sound_openings.proofs.open_sound.Goals as goal

pub returns-then-row-ne1 : goal.returns-then-row-ne1
unfolding openedb opening_of
returns-then-row-ne1 c = one-bad _ 0 (ne_eqb _ _ c.if-row-ne1.true) ∙ opened-open _ _ (opening_of c.args.row.now)

pub returns-then-row-gt1 : goal.returns-then-row-gt1
unfolding openedb opening_of
returns-then-row-gt1 c = one-bad _ 1 (lt-leb _ _ c.if-row-gt1.true) ∙ opened-open _ _ (opening_of c.args.row.now)

pub returns-then-not-pointers_sound : goal.returns-then-not-pointers_sound
unfolding openedb
returns-then-not-pointers_sound c = one-bad _ 2 (sym c.pointers_sound.ensures ∙ c.if-not-pointers_sound.true) ∙ opened-open _ _ _

pub returns-then-not-title_sound : goal.returns-then-not-title_sound
unfolding openedb opening_of part
returns-then-not-title_sound c = one-bad _ 3 (sym c.title_sound.ensures ∙ c.if-not-title_sound.true) ∙ opened-open _ _ (opening_of c.args.row.now)

pub returns-then-not-content_sound : goal.returns-then-not-content_sound
unfolding openedb part
returns-then-not-content_sound c = one-bad _ 4 (sym (content _ c.args.row.now c.content_sound.ensures) ∙ c.if-not-content_sound.true) ∙ opened-open _ _ _

pub returns : goal.returns
unfolding openedb opening_of part
returns c =
    all-last _ _ (
      eq-eqb _ _ c.if-row-ne1.false,
      (
        le-leb _ _ c.if-row-gt1.false,
        (
          sym c.pointers_sound.ensures ∙ c.if-not-pointers_sound.false,
          (
            sym c.title_sound.ensures ∙ c.if-not-title_sound.false,
            (sym (content _ c.args.row.now c.content_sound.ensures) ∙ c.if-not-content_sound.false, c.link_sound.ensures),
          ),
        ),
      ),
    )
    ∙ opened-open _ _ (opening_of c.args.row.now)
