-- `placing::Position::stretch` meets its contract. Assumes nothing.
use mathlib.Core.Path.{ap}
use Prim.Native.Nat.{ℕ, ◌-◌, ◌/◌}
use Rattle.placing.specs.Placing.{stretch_of}
use Rattle.placing.proofs.Position.stretch.Goals as goal

pub returns : goal.returns
unfolding stretch_of
returns c = ap (λ (n : ℕ). (c.args.self.0 - 1) / n) c.elements.ensures.0
