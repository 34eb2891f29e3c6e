-- `free_count::row_start` meets its contract: the place of a row, by the list's kind. Assumes nothing.
use native.Mathlib.Omega.{arith}
use Rattle.free_count.specs.Rows.{start-record, start-opening}
use Rattle.free_count.proofs.row_start.Goals as goal

pub returns-then-i-lt-PLACES : goal.returns-then-i-lt-PLACES
returns-then-i-lt-PLACES c =
    let s = start-record _ c.if-i-lt-PLACES.true in omega arith

pub returns : goal.returns
returns c =
    let s = start-opening _ c.if-i-lt-PLACES.false in omega arith
