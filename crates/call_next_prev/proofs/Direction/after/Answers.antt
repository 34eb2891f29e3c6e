-- `Direction::after` meets its contract. Assumes nothing.
use Rattle.std.proofs.Common.{arith}
use Rattle.call_next_prev.proofs.Steps.{steps}
use Rattle.call_next_prev.proofs.Direction.after.Goals as goal

pub shortened-requires : goal.shortened-requires
shortened-requires c = let w = c.requires in (w.0, omega arith)

pub returns-then-pointer-edge : goal.returns-then-pointer-edge
returns-then-pointer-edge c = search steps

pub returns : goal.returns
returns c = search steps
