-- `sound_records::records_sound` meets its contract: names are compared where each record is sound. Assumes nothing.
use mathlib.Core.Path.{sym, ◌∙◌}
use Rattle.combine.specs.Laws.Below.{all-at}
use Rattle.combine.specs.Laws.Rows.{one-bad, all-last}
use Rattle.placing.specs.Sizes.{places}
use Rattle.tables.specs.Layout.{record_at}
use Rattle.tables.specs.Laws.Put.{record-shaped-at}
use Rattle.tables.specs.Records.{recordsb}
use Rattle.sound_records.proofs.Spelling.{sound-spelled}
use Rattle.sound_records.proofs.records_sound.Goals as goal

pub returns-then-not-each_sound : goal.returns-then-not-each_sound
unfolding recordsb
returns-then-not-each_sound c = one-bad _ 0 (sym c.each_sound.ensures ∙ c.if-not-each_sound.true)

pub names_sound-requires : goal.names_sound-requires
names_sound-requires c =
    let t = c.args.tables.now in
    let sound = sym c.each_sound.ensures ∙ c.if-not-each_sound.false in
    (c.requires, (λ p l. sound-spelled (record_at t p) (record-shaped-at t c.requires p l).name12 c.args.segments (all-at _ places sound p l)))

pub returns : goal.returns
unfolding recordsb
returns c = all-last _ _ (sym c.each_sound.ensures ∙ c.if-not-each_sound.false, c.names_sound.ensures)
