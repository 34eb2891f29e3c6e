-- `call_rename::rename` meets its contract. Assumes nothing.
use Rattle.std.proofs.Common.{◌≡◌, Err, rules}
use Rattle.gate_laws.specs.Behind.{passed-long, passed-few}
use Rattle.call_rename.proofs.Renamed.{refused-at-gate, here, not-renamed, renamed}
use Rattle.call_rename.proofs.rename.Goals as goal

pub load_opening-opening-requires : goal.load_opening-opening-requires
load_opening-opening-requires c = let p = (here c.args.store.now _ _ _ _ c.reach.ensures _ c.in_ok-at.was).passed in (passed-long p, passed-few p)

pub put_opening-requires : goal.put_opening-requires
put_opening-requires c = let p = (here c.args.store.now _ _ _ _ c.reach.ensures _ c.in_ok-at.was).passed in (passed-long p, passed-few p)

pub returns-in_err-at : goal.returns-in_err-at
returns-in_err-at c =
    let z : c.from_residual.result ≡ Err c.in_err-at.field-0.0 = search rules in
    rw z (refused-at-gate c.args.store.now _ _ _ _ c.reach.ensures _ _ c.in_err-at.was)

pub returns-in_err-answer : goal.returns-in_err-answer
returns-in_err-answer c =
    let z : c.from_residual-in_err-answer.result ≡ Err c.in_err-answer.field-0.0 = search rules in
    rw z (not-renamed c.args.store.now _ _ _ _ c.reach.ensures _ c.in_ok-at.was _ _ c.name_of-symbols.ensures _ c.load_opening-opening.ensures
    _ c.rename.ensures _ c.in_err-answer.was)

pub returns : goal.returns
returns c =
    renamed c.args.store.now _ _ _ _ c.reach.ensures _ c.in_ok-at.was _ _ c.name_of-symbols.ensures _ c.load_opening-opening.ensures
    _ c.rename.ensures _ c.in_ok-answer.was _ c.put_opening.ensures
