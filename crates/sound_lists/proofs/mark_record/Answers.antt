-- `sound_lists::mark_record` meets its contract. Assumes nothing.
use Rattle.sound_lists.proofs.Listing.{unused-passes, record-passes}
use Rattle.sound_lists.proofs.mark_record.Goals as goal

pub returns-then-tables-place-eq0 : goal.returns-then-tables-place-eq0
returns-then-tables-place-eq0 c =
    unused-passes c.args.tables.now c.requires.0 c.args.place c.requires.1 _ c.if-tables-place-eq0.true

pub returns : goal.returns
returns c =
    record-passes c.args.tables.now c.requires.0 c.args.place c.requires.1 _ _ _ _ _ _ c.record_row-row.ensures c.mark_whole.ensures
