-- `call_pointers::new_pointer` meets its contract. Assumes nothing.
use Rattle.std.proofs.Common.{◌≡◌, refl, Err, rules}
use Rattle.rules.specs.Calls.{new_pointer}
use Rattle.call_pointers.proofs.Laws.{refused-at-gate, method-refused, method-done}
use Rattle.call_pointers.proofs.new_pointer.Goals as goal

pub returns-in_err-at : goal.returns-in_err-at
returns-in_err-at c =
    let z : c.from_residual.result ≡ Err c.in_err-at.field-0.0 = search rules in
    rw z (refused-at-gate c.args.store.now _ _ _ _ c.reach.ensures (new_pointer c.args.pointer) _ c.in_err-at.was)

pub returns-in_err-answer : goal.returns-in_err-answer
returns-in_err-answer c =
    let z : c.from_residual-in_err-answer.result ≡ Err c.in_err-answer.field-0.0 = search rules in
    rw z (method-refused c.args.store.now _ _ _ _ c.reach.ensures _ c.in_ok-at.was _ c.load_opening-opening.ensures (new_pointer c.args.pointer) refl
    _ c.new_pointer.ensures _ c.in_err-answer.was)

pub returns : goal.returns
returns c =
    method-done c.args.store.now _ _ _ _ c.reach.ensures _ c.in_ok-at.was _ c.load_opening-opening.ensures (new_pointer c.args.pointer) refl
    _ c.new_pointer.ensures _ c.in_ok-answer.was _ c.put_opening.ensures
