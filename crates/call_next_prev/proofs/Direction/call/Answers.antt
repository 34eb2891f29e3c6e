-- `Direction::call` meets its contract. Assumes nothing.
use Rattle.std.proofs.Common.{◌≡◌, Err, rules}
use Rattle.call_next_prev.proofs.Calls.{gates}
use Rattle.call_next_prev.proofs.Direction.call.Goals as goal

pub call_at-requires : goal.call_at-requires
call_at-requires c = search (gates, c.in_ok-at.was)

pub returns-in_err-at : goal.returns-in_err-at
returns-in_err-at c =
    let z : c.from_residual.result ≡ Err c.in_err-at.field-0.0 = search rules in
    search (gates, c.in_err-at.was, z)

pub returns : goal.returns
returns c = search (gates, c.in_ok-at.was)
