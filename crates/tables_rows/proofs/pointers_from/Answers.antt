-- `tables_rows::pointers_from` meets its contract: each is that of the row's cell. Assumes nothing.
use borrow.Author.Rules.{rules}
use Rattle.placing.specs.Placing.{position}
use Rattle.tables_rows.proofs.Made.{from-row}
use Rattle.tables_rows.proofs.pointers_from.Goals as goal

pub returns : goal.returns
returns c = from-row position c.args.row.now c.from_fn.result 0 8 c.from_fn.ensures.items c.requires (λ i y q k. search rules)
