-- `tables_rows::put_pointers` meets its contract: the cells before `i` are the numbers of the list's. Assumes nothing.
use native.Mathlib.Omega.{arith}
use borrow.Author.Rules.{rules}
use Rattle.placing.specs.Placing.{position}
use Rattle.tables.specs.Layout.{position_number}
use Rattle.tables_rows.proofs.Made.{mapped}
use Rattle.tables_rows.proofs.put_pointers.Goals as goal

pub returns : goal.returns
returns c =
    mapped position_number c.args.pointers c.loop-i.row (position 0) (search rules) (λ k l. c.loop-i.invariant k (omega arith))
