-- `sound_extents::list_sound` meets its contract. Assumes nothing.
use mathlib.Core.Path.{sym, ◌∙◌}
use Rattle.combine.specs.Laws.Rows.{one-bad, all-last}
use Rattle.tables.specs.Records.{listb}
use Rattle.sound_extents.specs.Slices.{list_held, list-unused}
use Rattle.sound_extents.proofs.list_sound.Goals as goal

pub returns-then-not-all_below : goal.returns-then-not-all_below
unfolding listb
returns-then-not-all_below c =
    one-bad _ 0 (sym (c.all_below.ensures ∙ list_held c.args.list.now c.args.held c.requires.0 c.requires.1 c.args.segments) ∙ c.if-not-all_below.true)

pub returns : goal.returns
unfolding listb
returns c =
    let l = c.args.list.now in
    let h = c.args.held in
    all-last _ _ (
      sym (c.all_below.ensures ∙ list_held l h c.requires.0 c.requires.1 c.args.segments) ∙ c.if-not-all_below.false,
      c.all_zero.ensures ∙ list-unused l h c.requires.0 c.requires.1,
    )
