-- `call_write::write_of` meets its contract. Assumes nothing.
use mathlib.Core.Path.{◌≡◌, ap, ◌∙◌}
use borrow.Author.Rules.{rules}
use Rattle.std.specs.Prelude.{Err}
use Rattle.answers.specs.Said.{Answer}
use Rattle.cells.specs.Outcomes.{outcome}
use Rattle.gate_laws.specs.Gated.{use-refused, use-standing}
use Rattle.call_write.specs.Settled.{write_of}
use Rattle.call_write.proofs.Loaded.{write-used}
use Rattle.call_write.proofs.write_of.Goals as goal

pub returns-in_err-at : goal.returns-in_err-at
returns-in_err-at c =
    let lent = c.args in
    let z : c.from_residual.result ≡ Err c.in_err-at.field-0.0 = search rules in
    ap (λ (a : Answer). outcome a lent.store.now lent.tables.now) z ∙ use-refused _ _ _ _ _ c.reach.ensures (write_of lent.pointer lent.number) _ c.in_err-at.was

pub write_at-requires : goal.write_at-requires
write_at-requires c = use-standing _ _ _ _ _ c.reach.ensures _ c.in_ok-at.was

pub returns : goal.returns
returns c = write-used _ _ _ _ _ c.reach.ensures _ c.in_ok-at.was _ _ _ c.write_at.ensures
