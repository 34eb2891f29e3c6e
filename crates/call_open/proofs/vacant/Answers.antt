-- `call_open::vacant` meets its contract. Assumes nothing.
use Rattle.std.proofs.Common.{◌≡◌, Err, rules}
use Rattle.gate.proofs.Laws.{opened-within, opened-mul, opened-add, opened-scaled}
use Rattle.call_open.proofs.Entry.{no-entry, already-open, is-vacant}
use Rattle.call_open.proofs.vacant.Goals as goal

pub overflow_mul-opened : goal.overflow_mul-opened
overflow_mul-opened c = opened-mul _ _ _ _ _ c.pass.ensures _ c.in_ok-at.was

pub overflow_add-opened : goal.overflow_add-opened
overflow_add-opened c = opened-add _ _ _ _ _ c.pass.ensures _ c.in_ok-at.was

pub offset_bounds-tables-opened : goal.offset_bounds-tables-opened
offset_bounds-tables-opened c = opened-scaled _ _ _ _ _ c.pass.ensures _ c.in_ok-at.was

pub bounds-tables-opened : goal.bounds-tables-opened
bounds-tables-opened c = opened-within _ _ _ _ _ c.pass.ensures _ c.in_ok-at.was

pub returns-in_err-at : goal.returns-in_err-at
returns-in_err-at c =
    let z : c.from_residual.result ≡ Err c.in_err-at.field-0.0 = search rules in
    no-entry _ _ _ _ _ c.pass.ensures _ c.in_err-at.was _ z

pub returns-then-tables-opened-eq1 : goal.returns-then-tables-opened-eq1
returns-then-tables-opened-eq1 c = already-open _ _ _ _ _ c.pass.ensures _ c.in_ok-at.was c.if-tables-opened-eq1.true

pub returns : goal.returns
returns c = is-vacant _ _ _ _ _ c.pass.ensures _ c.in_ok-at.was c.if-tables-opened-eq1.false
