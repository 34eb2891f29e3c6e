-- `placing::Position::bit` meets its contract. Assumes nothing.
use mathlib.Core.Path.{ap}
use Prim.Native.Nat.{ℕ, ◌%◌}
use Rattle.placing.specs.Placing.{bit_of}
use Rattle.placing.proofs.Position.bit.Goals as goal

pub returns : goal.returns
unfolding bit_of
returns c = ap (λ (n : ℕ). n % 32) c.bits_before.ensures.0
