use native.Mathlib.Omega.{arith}
use Rattle.history_buffers.specs.Laws.{lent_none, lent-some}
use Rattle.history_buffers.proofs.lent.Goals as goal

pub returns-then-k-gt-LAST_BUFFER : goal.returns-then-k-gt-LAST_BUFFER
returns-then-k-gt-LAST_BUFFER c = (lent_none _ _ _ c.if-k-gt-LAST_BUFFER.true, omega arith)

pub returns : goal.returns
returns c = (lent-some _ _ _ _ (omega arith) c.within.ensures.0, c.within.ensures.1)
