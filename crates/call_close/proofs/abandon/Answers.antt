-- `call_close::abandon` meets its contract. Assumes nothing.
use Rattle.std.proofs.Common.{◌≡◌, refl, Err, rules, arith}
use Rattle.rules.specs.Calls.{abandons}
use Rattle.gate_laws.specs.Behind.{passed-long, passed-few}
use Rattle.call_close.proofs.Left.{left_not, here, abandoned}
use Rattle.call_close.proofs.abandon.Goals as goal

pub end-requires : goal.end-requires
end-requires c =
    let p = (here _ _ _ _ _ c.reach.ensures _ c.in_ok-opened.was).passed in
    let long = passed-long p in
    let few = passed-few p in
    (omega arith, omega arith)

pub returns-in_err-opened : goal.returns-in_err-opened
returns-in_err-opened c =
    let z : c.from_residual.result ≡ Err c.in_err-opened.field-0.0 = search rules in
    left_not _ _ _ _ _ c.reach.ensures abandons refl _ c.in_err-opened.was _ z

pub returns : goal.returns
returns c = abandoned _ _ _ _ _ c.reach.ensures _ c.in_ok-opened.was _ refl _ _ c.end.ensures
