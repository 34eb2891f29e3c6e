use native.Mathlib.Omega.{arith}
use Rattle.history_buffers.specs.Laws.{lend-most, lend-where, lend-there}
use Rattle.history_buffers.proofs.lend.Goals as goal

pub returns-then-most-n : goal.returns-then-most-n
returns-then-most-n c = lend-most _ _ _ _ (omega arith)

pub returns-then-k-gt-LAST_BUFFER : goal.returns-then-k-gt-LAST_BUFFER
returns-then-k-gt-LAST_BUFFER c = lend-where _ _ _ _ (omega arith) (omega arith)

pub returns : goal.returns
returns c = lend-there _ _ _ _ (omega arith) (omega arith)
