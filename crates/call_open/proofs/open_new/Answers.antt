-- `call_open::open_new` meets its contract. Assumes nothing.
use Rattle.std.proofs.Common.{◌≡◌, Err, rules, arith}
use Rattle.rules.specs.Calls.{new}
use Rattle.gate_laws.specs.Behind.{passed-long, passed-few}
use Rattle.call_open.proofs.Entry.{vacant-not, vacant-at}
use Rattle.call_open.proofs.Opened.{new-refused, new-done}
use Rattle.call_open.proofs.open_new.Goals as goal

pub put_opening-requires : goal.put_opening-requires
put_opening-requires c =
    let v = vacant-at _ _ _ _ _ c.vacant.ensures _ c.in_ok-at.was in
    (passed-long v.passed, passed-few v.passed)

pub returns-in_err-at : goal.returns-in_err-at
returns-in_err-at c =
    let z : c.from_residual.result ≡ Err c.in_err-at.field-0.0 = search rules in
    vacant-not _ _ _ _ _ c.vacant.ensures (new c.args.species) _ c.in_err-at.was _ z

pub returns-then-species-gt-GREATEST_SPECIES : goal.returns-then-species-gt-GREATEST_SPECIES
returns-then-species-gt-GREATEST_SPECIES c =
    new-refused _ _ _ _ _ (vacant-at _ _ _ _ _ c.vacant.ensures _ c.in_ok-at.was) _ c.if-species-gt-GREATEST_SPECIES.true

pub returns : goal.returns
returns c =
    new-done _ _ _ _ _ (vacant-at _ _ _ _ _ c.vacant.ensures _ c.in_ok-at.was) _ (omega arith) _ _ c.new_opening-opening.ensures c.put_opening.ensures
