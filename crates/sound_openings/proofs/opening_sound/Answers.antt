-- `sound_openings::opening_sound` meets its contract. Assumes nothing.
use mathlib.Core.Path.{◌∙◌}
use Rattle.sound_openings.proofs.Entries.{closed-entry, open-entry}
use Rattle.sound_openings.proofs.opening_sound.Goals as goal

pub returns-then-row-eq0 : goal.returns-then-row-eq0
returns-then-row-eq0 c =
    c.all_zero.ensures ∙ closed-entry c.args.tables.now c.args.entry c.requires.0 c.requires.1 c.if-row-eq0.true

pub returns : goal.returns
returns c = c.open_sound.ensures ∙ open-entry c.args.tables.now c.args.entry c.if-row-eq0.false
