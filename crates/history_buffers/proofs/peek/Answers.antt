use native.Mathlib.Omega.{arith}
use Rattle.history_buffers.specs.Laws.{peek-beyond, peek-there}
use Rattle.history_buffers.proofs.peek.Goals as goal

pub returns-then-cells-index : goal.returns-then-cells-index
returns-then-cells-index c = peek-beyond _ _ c.if-cells-index.true

pub returns : goal.returns
returns c = peek-there _ _ (omega arith)
