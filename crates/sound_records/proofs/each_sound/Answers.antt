-- `sound_records::each_sound` meets its contract: the records before place `p` are sound. Assumes nothing.
use mathlib.Core.Path.{sym, ap, ◌∙◌}
use native.Mathlib.Omega.{arith}
use Rattle.combine.specs.Laws.Below.{all-zero, all_more, loop-false}
use Rattle.tables.specs.Records.{recordb}
use Rattle.sound_clashes.proofs.Rows.{row_at}
use Rattle.sound_records.proofs.each_sound.Goals as goal

pub loop-p-init : goal.loop-p-init
loop-p-init c = all-zero _

pub returns-then-not-record_sound : goal.returns-then-not-record_sound
returns-then-not-record_sound c =
    let e = c.record_sound.ensures ∙ ap (recordb c.args.segments) (row_at c.args.tables.now c.loop-p.p) in
    loop-false _ _ _ (omega arith) (sym e ∙ c.if-not-record_sound.true)

pub loop-p-preserved : goal.loop-p-preserved
loop-p-preserved c =
    let e = c.record_sound.ensures ∙ ap (recordb c.args.segments) (row_at c.args.tables.now c.loop-p.p) in
    all_more _ _ c.loop-p.invariant (sym e ∙ c.if-not-record_sound.false)
