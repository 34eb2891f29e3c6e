-- `call_pointers::reset` meets its contract. Assumes nothing.
use Rattle.std.proofs.Common.{◌≡◌, Err, rules}
use Rattle.rules.specs.Calls.{reset}
use Rattle.call_pointers.proofs.Laws.{refused-at-gate, was-reset}
use Rattle.call_pointers.proofs.reset.Goals as goal

pub returns-in_err-at : goal.returns-in_err-at
returns-in_err-at c =
    let z : c.from_residual.result ≡ Err c.in_err-at.field-0.0 = search rules in
    rw z (refused-at-gate c.args.store.now _ _ _ _ c.reach.ensures reset _ c.in_err-at.was)

pub returns : goal.returns
returns c =
    was-reset c.args.store.now _ _ _ _ c.reach.ensures _ c.in_ok-at.was _ _ c.load_opening-opening.ensures c.reset.ensures _ c.put_opening.ensures
