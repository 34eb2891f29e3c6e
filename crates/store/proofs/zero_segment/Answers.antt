-- `store::zero_segment` meets its contract: the part of the store that was filled is the segment's. Assumes nothing.
use native.Mathlib.Omega.{arith}
use borrow.Author.Rules.{rules}
use Rattle.store.proofs.Segments.{zero-done}
use Rattle.store.proofs.zero_segment.Goals as goal

pub returns : goal.returns
returns c =
    let a = c.args in
    zero-done a.store.now _ c.index-base.result a.segment (omega arith) c.requires (search rules)
