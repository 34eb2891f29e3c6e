use native.Mathlib.Omega.{arith}
use Rattle.history_buffers.specs.Laws.{poke-beyond, poke-there}
use Rattle.history_buffers.proofs.poke.Goals as goal

pub returns-then-cells-index : goal.returns-then-cells-index
returns-then-cells-index c = poke-beyond _ _ _ c.if-cells-index.true

pub returns : goal.returns
returns c = poke-there _ _ _ (omega arith)
