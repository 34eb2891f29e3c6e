-- `tables_records::record_from` meets its contract. Assumes nothing.
use Rattle.tables_records.proofs.Loaded.{record-of}
use Rattle.tables_records.proofs.record_from.Goals as goal

pub returns : goal.returns
returns c =
    record-of c.args.row.now c.name_from-name.ensures c.of-begin.ensures c.of-end.ensures c.segments_from-segments.ensures
