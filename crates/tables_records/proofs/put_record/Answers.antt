-- `tables_records::put_record` meets its contract. Assumes nothing.
use Rattle.tables.specs.Laws.Lengths.{unmapped}
use Rattle.combine.specs.Laws.Between.{put-all-between}
use Rattle.tables.specs.Layout.{record_base, record_cells, put_record}
use Rattle.tables.specs.Laws.Again.{ShapedRecord, length-record}
use borrow.Author.Rules.{rules}
use Rattle.tables_records.proofs.put_record.Goals as goal

pub returns : goal.returns
unfolding put_record
returns c =
    let r = c.args.filed in
    let shaped : ShapedRecord r = search (rules, unmapped) in
    let a = c.args in
    put-all-between a.tables.now (record_cells r) (record_base a.place) 50 c.put_record_row.ensures (length-record r shaped)
