-- `free_lowest::numbers_in` meets its contract. Assumes nothing.
use Rattle.free_count.proofs.Cells.{lent-part}
use Rattle.free_lowest.proofs.numbers_in.Goals as goal

pub returns : goal.returns
returns c = lent-part c.args.tables.now c.args.row.start c.args.row.count
