-- `tables::Opening::reset` meets its contract. Assumes nothing.
use Prim.Native.Nat.{ℕ}
use mathlib.Core.Path.{ap, ◌∙◌}
use Rattle.placing.specs.Placing.{position}
use Rattle.tables.specs.Handles.{pointed}
use Rattle.tables.proofs.Opening.reset.Goals as goal

pub returns : goal.returns
returns c = c.step.ensures ∙ ap (λ (v : ℕ). pointed c.args.self 2 (position v)) c.value-begin.ensures
