-- `sound_links::elsewhere` meets its contract. Assumes nothing.
use Rattle.sound_links.proofs.Links.{own-entry, other-entry}
use Rattle.sound_links.proofs.elsewhere.Goals as goal

pub returns-then-other-entry : goal.returns-then-other-entry
returns-then-other-entry c = own-entry _ _ _ _ c.if-other-entry.true

pub returns : goal.returns
returns c = other-entry c.args.tables.now _ _ _ c.if-other-entry.false
