-- `call_ask::value_at` meets its contract. Assumes nothing.
use mathlib.Core.Path.{ap, ◌∙◌}
use Rattle.placing.specs.declared.Position.{Position}
use Rattle.call_ask.proofs.value_at.Goals as goal

pub returns : goal.returns
returns c = ap (λ (x : Position). x.0) c.of.ensures ∙ c.field.ensures
