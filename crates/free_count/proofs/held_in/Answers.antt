-- `free_count::held_in` meets its contract: the cells are those of the record, or of the opening. Assumes nothing.
use native.Mathlib.Omega.{arith}
use Rattle.free_count.proofs.Cells.{held-record, extent-record, held-opening, extent-opening}
use Rattle.free_count.proofs.held_in.Goals as goal

pub held_by-requires : goal.held_by-requires
held_by-requires c =
    extent-record c.args.tables.now c.args.i (omega arith) c.requires.0

pub returns-then-i-lt-PLACES : goal.returns-then-i-lt-PLACES
returns-then-i-lt-PLACES c =
    held-record c.args.tables.now c.args.i (omega arith) _ c.held_by.ensures

pub held_by-requires-2 : goal.held_by-requires-2
held_by-requires-2 c =
    extent-opening c.args.tables.now c.args.i (omega arith) c.requires.0 (omega arith)

pub returns : goal.returns
returns c =
    held-opening c.args.tables.now c.args.i (omega arith) _ c.held_by-2.ensures
