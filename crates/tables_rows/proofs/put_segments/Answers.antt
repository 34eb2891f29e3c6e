-- `tables_rows::put_segments` meets its contract: the cells before `i` are the numbers of the list's. Assumes nothing.
use native.Mathlib.Omega.{arith}
use borrow.Author.Rules.{rules}
use Rattle.placing.specs.Placing.{segment}
use Rattle.tables.specs.Layout.{segment_number}
use Rattle.tables_rows.proofs.Made.{mapped}
use Rattle.tables_rows.proofs.put_segments.Goals as goal

pub returns : goal.returns
returns c =
    mapped segment_number c.args.segments c.loop-i.row (segment 0) (search rules) (λ k l. c.loop-i.invariant k (omega arith))
