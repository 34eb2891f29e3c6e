-- `call_open::open_old` meets its contract. Assumes nothing.
use Rattle.std.proofs.Common.{◌≡◌, Err, rules, subst}
use Rattle.open_choice.specs.Chosen.{There}
use Rattle.call_open.specs.Ways.{way_of}
use Rattle.gate_laws.specs.Behind.{passed-long, passed-few}
use Rattle.call_open.proofs.Entry.{vacant-not, vacant-at}
use Rattle.call_open.proofs.Opened.{old-refused, old-done}
use Rattle.call_open.proofs.open_old.Goals as goal

pub choose-requires : goal.choose-requires
choose-requires c = passed-long (vacant-at _ _ _ _ _ c.vacant.ensures _ c.in_ok-at.was).passed

pub open_record-requires : goal.open_record-requires
open_record-requires c =
    let v = vacant-at _ _ _ _ _ c.vacant.ensures _ c.in_ok-at.was in
    (passed-long v.passed, passed-few v.passed, (subst (There c.args.tables.now) c.in_ok-place.was c.choose.ensures.there).0)

pub returns-in_err-at : goal.returns-in_err-at
returns-in_err-at c =
    let z : c.from_residual.result ≡ Err c.in_err-at.field-0.0 = search rules in
    vacant-not _ _ _ _ _ c.vacant.ensures (way_of c.args.work c.args.name.now) _ c.in_err-at.was _ z

pub returns-in_err-place : goal.returns-in_err-place
returns-in_err-place c =
    let z : c.from_residual-in_err-place.result ≡ Err c.in_err-place.field-0.0 = search rules in
    let v = vacant-at _ _ _ _ _ c.vacant.ensures _ c.in_ok-at.was in
    old-refused _ _ _ _ _ v _ c.args.name.now _ c.name_of-symbols.ensures _ c.choose.ensures.verdict _ c.in_err-place.was _ z

pub returns : goal.returns
returns c =
    let v = vacant-at _ _ _ _ _ c.vacant.ensures _ c.in_ok-at.was in
    old-done _ _ _ _ _ v _ c.args.name.now _ c.name_of-symbols.ensures _ c.choose.ensures.verdict _ c.in_ok-place.was c.choose.ensures.there _ c.open_record.ensures
