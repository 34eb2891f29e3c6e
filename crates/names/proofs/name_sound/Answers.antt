-- `names::name_sound` meets its contract: `all` is true exactly if each symbol may be followed by the next. Assumes
-- nothing.
use borrow.Author.Rules.{rules}
use Rattle.names.proofs.Within.{sound-pairs, unsound-first}
use Rattle.names.proofs.name_sound.Goals as goal

pub returns-then-name-le-LAST_LETTER : goal.returns-then-name-le-LAST_LETTER
returns-then-name-le-LAST_LETTER c =
    sound-pairs c.args.name.now c.requires c.all.result c.if-name-le-LAST_LETTER.true (search rules)

pub returns-else-name-le-LAST_LETTER : goal.returns-else-name-le-LAST_LETTER
returns-else-name-le-LAST_LETTER c = unsound-first c.args.name.now c.requires c.if-name-le-LAST_LETTER.false
