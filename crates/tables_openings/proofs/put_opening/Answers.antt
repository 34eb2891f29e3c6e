-- `tables_openings::put_opening` meets its contract. Assumes nothing.
use Rattle.tables.specs.Laws.Lengths.{unmapped}
use Rattle.combine.specs.Laws.Between.{put-all-between}
use Rattle.tables.specs.Layout.{opening_base, opening_cells, put_opening}
use Rattle.tables.specs.Laws.Again.{ShapedOpening, length-opening}
use borrow.Author.Rules.{rules}
use Rattle.tables_openings.proofs.put_opening.Goals as goal

pub returns : goal.returns
unfolding put_opening
returns c =
    let o = c.args.opening in
    let shaped : ShapedOpening o = search (rules, unmapped) in
    let a = c.args in
    put-all-between a.tables.now (opening_cells o) (opening_base a.entry) 56 c.put_opening_row.ensures (length-opening o shaped)
