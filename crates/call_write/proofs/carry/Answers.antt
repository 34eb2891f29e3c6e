use Rattle.call_write.proofs.Carries.{carries, planned-ok, copy-to, zero-fits, carry-no, carry-drop, carry-put, carry-copy, carry-zero}
use Rattle.std.specs.Prelude.{Err}
use mathlib.Core.Path.{◌≡◌}
use borrow.Author.Rules.{rules}
use native.Mathlib.Omega.{arith}
use Rattle.call_write.proofs.carry.Goals as goal

pub returns-in_err-plan : goal.returns-in_err-plan
returns-in_err-plan c = λ verdict a.
    let z : c.from_residual.result ≡ Err c.in_err-plan.field-0.0 = search rules in
    carry-no c.args.store.now c.args.tables.now c.args.entry _ _ verdict _ a _ c.in_err-plan.was _ z c.args.bits

pub settle-requires-in-Copy : goal.settle-requires-in-Copy
settle-requires-in-Copy c =
    let chosen = planned-ok _ _ _ _ _ c.requires.4.1 _ c.in_ok-plan.was in
    let fits = copy-to _ _ _ _ _ chosen _ c.requires.2 _ _ _ c.in-Copy.is in
    (search carries, search carries, omega (arith, fits, c.copy_segment.auto.store), search (carries, chosen))

pub settle-requires-in-Zero : goal.settle-requires-in-Zero
settle-requires-in-Zero c =
    let chosen = planned-ok _ _ _ _ _ c.requires.4.1 _ c.in_ok-plan.was in
    let fits = zero-fits _ _ _ _ _ chosen _ c.requires.2 _ _ c.in-Zero.is in
    (search carries, search carries, omega (arith, fits, c.zero_segment.auto.store), search (carries, chosen))

pub returns-in-Drop : goal.returns-in-Drop
returns-in-Drop c = λ verdict a.
    search (carry-drop _ _ _ verdict _ (planned-ok _ _ _ _ _ a _ c.in_ok-plan.was) c.args.store.now c.args.entry c.args.bits, rules)

pub returns-in-Put : goal.returns-in-Put
returns-in-Put c = λ verdict a.
    search (carry-put _ _ _ verdict _ (planned-ok _ _ _ _ _ a _ c.in_ok-plan.was) c.args.store.now c.args.entry c.args.bits, rules)

pub returns-in-Copy : goal.returns-in-Copy
returns-in-Copy c = λ verdict a.
    search (carry-copy _ _ _ verdict _ (planned-ok _ _ _ _ _ a _ c.in_ok-plan.was) c.args.store.now c.args.entry c.args.bits, rules)

pub returns-in-Zero : goal.returns-in-Zero
returns-in-Zero c = λ verdict a.
    search (carry-zero _ _ _ verdict _ (planned-ok _ _ _ _ _ a _ c.in_ok-plan.was) c.args.store.now c.args.entry c.args.bits, rules)
