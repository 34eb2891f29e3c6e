-- `tables_records::load_record` meets its contract. Assumes nothing.
use Rattle.tables_records.proofs.Loaded.{record-between}
use Rattle.tables_records.proofs.load_record.Goals as goal

pub returns : goal.returns
returns c =
    let a = c.args in
    record-between a.tables.now a.place c.record_from.ensures
