-- `gate::reach` meets its contract. Assumes nothing.
use Rattle.std.proofs.Common.{◌≡◌, Err, rules, ◌∙◌}
use Rattle.gate.proofs.Laws.{reach-no, opened-within, opened-mul, opened-add, opened-scaled, reach-closed, reach-open}
use Rattle.gate.proofs.reach.Goals as goal

pub overflow_mul-opened : goal.overflow_mul-opened
overflow_mul-opened c = opened-mul _ _ _ _ _ c.pass.ensures _ c.in_ok-at.was

pub overflow_add-opened : goal.overflow_add-opened
overflow_add-opened c = opened-add _ _ _ _ _ c.pass.ensures _ c.in_ok-at.was

pub offset_bounds-tables-opened : goal.offset_bounds-tables-opened
offset_bounds-tables-opened c = opened-scaled _ _ _ _ _ c.pass.ensures _ c.in_ok-at.was

pub bounds-tables-opened : goal.bounds-tables-opened
bounds-tables-opened c = opened-within _ _ _ _ _ c.pass.ensures _ c.in_ok-at.was

pub returns-in_err-at : goal.returns-in_err-at
returns-in_err-at c =
    let z : c.from_residual.result ≡ Err c.in_err-at.field-0.0 = search rules in
    z ∙ reach-no _ _ _ _ _ c.pass.ensures _ c.in_err-at.was

pub returns-then-tables-opened-ne1 : goal.returns-then-tables-opened-ne1
returns-then-tables-opened-ne1 c = reach-closed _ _ _ _ _ c.pass.ensures _ c.in_ok-at.was c.if-tables-opened-ne1.true

pub returns : goal.returns
returns c = reach-open _ _ _ _ _ c.pass.ensures _ c.in_ok-at.was c.if-tables-opened-ne1.false
