-- `call_ask::tell` meets its contract. Assumes nothing.
use Rattle.std.proofs.Common.{◌≡◌, Err, rules}
use Rattle.call_ask.proofs.Laws.{tell_no}
use Rattle.call_ask.proofs.tell.Goals as goal

pub returns-in_err-at : goal.returns-in_err-at
returns-in_err-at c =
    let z : c.from_residual.result ≡ Err c.in_err-at.field-0.0 = search rules in
    rw z (tell_no _ _ _ _ _ c.reach.ensures _ _ c.in_err-at.was)
