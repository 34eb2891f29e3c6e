-- `sound_openings::title_sound` meets its contract. Assumes nothing.
use mathlib.Core.Path.{sym, ◌∙◌}
use Rattle.sound_openings.proofs.Titles.{title-name, title-blank}
use Rattle.sound_openings.proofs.title_sound.Goals as goal

pub returns-then-name_sound : goal.returns-then-name_sound
returns-then-name_sound c = title-name _ (sym c.name_sound.ensures ∙ c.if-name_sound.true)

pub returns : goal.returns
returns c = c.all_equal.ensures ∙ title-blank c.args.name.now c.requires (sym c.name_sound.ensures ∙ c.if-name_sound.false)
