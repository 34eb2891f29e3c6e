-- `sound_records::record_sound` meets its contract. Assumes nothing.
use mathlib.Core.Path.{◌∙◌}
use borrow.Author.Tests.{eq-eqb, ne_eqb}
use Rattle.tables.specs.Layout.{record_of}
use Rattle.tables.specs.Records.{recordb}
use Rattle.sound_records.specs.Unused.{unused-row}
use Rattle.sound_records.proofs.record_sound.Goals as goal

pub returns-then-cells-eq0 : goal.returns-then-cells-eq0
unfolding recordb record_of
returns-then-cells-eq0 c =
    c.all_zero.ensures ∙ unused-row c.args.cells.now c.requires c.if-cells-eq0.true ∙ simp (eq-eqb _ _ c.if-cells-eq0.true)

pub returns : goal.returns
unfolding recordb record_of
returns c = c.used_sound.ensures ∙ simp (ne_eqb _ _ c.if-cells-eq0.false)
