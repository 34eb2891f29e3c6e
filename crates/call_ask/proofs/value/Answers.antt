-- `call_ask::value` meets its contract. Assumes nothing.
use Rattle.std.proofs.Common.{◌≡◌, Err, rules}
use Rattle.rules.specs.Calls.{ask_value}
use Rattle.call_ask.proofs.Laws.{refused-at-gate}
use Rattle.call_ask.proofs.value.Goals as goal

pub returns-in_err-at : goal.returns-in_err-at
returns-in_err-at c =
    let z : c.from_residual.result ≡ Err c.in_err-at.field-0.0 = search rules in
    rw z (refused-at-gate c.args.store.now _ _ _ _ c.reach.ensures (ask_value c.args.pointer) _ c.in_err-at.was)
