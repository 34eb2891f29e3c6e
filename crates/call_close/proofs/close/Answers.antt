-- `call_close::close` meets its contract. Assumes nothing.
use Rattle.std.proofs.Common.{◌≡◌, refl, Err, rules, subst}
use Rattle.rules.specs.Calls.{closes}
use Rattle.gate_laws.specs.Behind.{passed-long, passed-few}
use Rattle.close_choice.specs.Planned.{InRange}
use Rattle.call_close.proofs.Left.{left_not, here, left-place, close-refused, closed_out}
use Rattle.call_close.proofs.close.Goals as goal

pub load_opening-opening-requires : goal.load_opening-opening-requires
load_opening-opening-requires c =
    let p = (here _ _ _ _ _ c.reach.ensures _ c.in_ok-at.was).passed in
    (passed-long p, passed-few p)

pub decide-requires : goal.decide-requires
decide-requires c =
    let p = (here _ _ _ _ _ c.reach.ensures _ c.in_ok-at.was).passed in
    (passed-long p, left-place _ _ _ _ _ c.reach.ensures _ c.in_ok-at.was _ c.load_opening-opening.ensures)

pub carry-requires : goal.carry-requires
carry-requires c =
    let p = (here _ _ _ _ _ c.reach.ensures _ c.in_ok-at.was).passed in
    (passed-long p, passed-few p, subst InRange c.in_ok-plan.was c.decide.ensures.range)

pub returns-in_err-at : goal.returns-in_err-at
returns-in_err-at c =
    let z : c.from_residual.result ≡ Err c.in_err-at.field-0.0 = search rules in
    left_not _ _ _ _ _ c.reach.ensures (closes c.args.public) refl _ c.in_err-at.was _ z

pub returns-in_err-plan : goal.returns-in_err-plan
returns-in_err-plan c =
    let z : c.from_residual-in_err-plan.result ≡ Err c.in_err-plan.field-0.0 = search rules in
    close-refused _ _ _ _ _ c.reach.ensures _ c.in_ok-at.was _ c.load_opening-opening.ensures _ _ c.decide.ensures.verdict _ c.in_err-plan.was _ z

pub returns : goal.returns
returns c =
    closed_out _ _ _ _ _ c.reach.ensures _ c.in_ok-at.was _ c.load_opening-opening.ensures _ _ c.decide.ensures.verdict _ c.in_ok-plan.was _ _ c.carry.ensures
