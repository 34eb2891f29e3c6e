-- `store::copy_segment` meets its contract: the first segment's cells become the second's. Assumes nothing.
use mathlib.Core.Path.{◌∙◌}
use native.Mathlib.Omega.{arith}
use Rattle.store.proofs.Segments.{copy-done}
use Rattle.store.proofs.copy_segment.Goals as goal

pub returns : goal.returns
returns c =
    let a = c.args in
    c.copy_within.ensures.after ∙ copy-done a.store.now a.from a.to c.index-source.result c.index-base.result (omega arith) (omega arith)
