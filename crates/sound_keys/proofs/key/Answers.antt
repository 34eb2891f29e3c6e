-- `sound_keys::key` meets its contract. Assumes nothing.
use Rattle.sound_keys.proofs.Rows.{no_key, six-symbols}
use Rattle.sound_keys.proofs.key.Goals as goal

pub returns-then-row-eq0 : goal.returns-then-row-eq0
returns-then-row-eq0 c = no_key c.args.row.now c.args.at c.if-row-eq0.true

pub returns : goal.returns
returns c =
    six-symbols c.args.row.now c.args.at _ _ _ _ _ _ c.requires.1 c.requires.2 c.if-row-eq0.false
    c.wide.ensures.0
    c.wide-2.ensures.0
    c.wide-3.ensures.0
    c.wide-4.ensures.0
    c.wide-5.ensures.0
    c.wide-6.ensures.0
