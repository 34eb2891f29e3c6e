-- `run_spans::cells::take_cells` meets its contract. Assumes nothing.
use Prim.Native.Nat.{◌+◌, ◌≤◌}
use native.Mathlib.Omega.{arith}
use borrow.Author.Rules.{rules}
use lib.ListN.{length}
use Rattle.run_spans.proofs.Copied.{cells-within, cells-taken}
use Rattle.run_spans.proofs.cells.take_cells.Goals as goal

pub overflow_add-at : goal.overflow_add-at
overflow_add-at c = let w : c.index-at.result + c.args.count ≤ length c.args.store.now = search cells-within in omega arith

pub offset_bounds-store-at : goal.offset_bounds-store-at
offset_bounds-store-at c = let w : c.index-at.result + c.args.count ≤ length c.args.store.now = search cells-within in omega arith

pub returns : goal.returns
returns c = search (cells-taken, rules)
