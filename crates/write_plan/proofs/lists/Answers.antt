-- `write_plan::lists` meets its contract. Assumes nothing.
use Prim.Native.Nat.{◌<◌}
use mathlib.Core.Path.{◌≡◌, sym, ap, ◌∙◌}
use native.Mathlib.Omega.{arith}
use borrow.Author.Rules.{rules}
use lib.ListN.{length}
use Rattle.std.proofs.Common.{get_or-take}
use Rattle.std.proofs.Math.Seq.{length-take-le}
use Rattle.placing.specs.Placing.{segment}
use Rattle.tables.specs.Layout.{segment_number}
use Rattle.tables.specs.Fields.{number_at}
use Rattle.opening_laws.specs.Shared.{lists-none, lists-more, lists-hit}
use Rattle.write_plan.proofs.lists.Goals as goal

pub loop-found-init : goal.loop-found-init
loop-found-init c = lists-none _ _

pub returns-then-number : goal.returns-then-number
returns-then-number c =
    let list = c.args.list in
    let k = c.loop-found.found-index in
    let long : length list ≡ 32 = search rules in
    let held = length-take-le c.args.held list (omega arith) in
    let within : k < c.args.held = omega arith in
    let found : number_at list k ≡ c.args.segment.0 =
    sym (ap segment_number (get_or-take c.args.held list k (segment 0) within)) ∙ sym c.number.ensures ∙ c.if-number.true ∙ c.number-number.ensures in
    sym (lists-hit list c.args.segment.0 c.args.held k within (omega arith) found)

pub loop-found-preserved : goal.loop-found-preserved
loop-found-preserved c =
    let list = c.args.list in
    let k = c.loop-found.found-index in
    let long : length list ≡ 32 = search rules in
    let held = length-take-le c.args.held list (omega arith) in
    let within : k < c.args.held = omega arith in
    lists-more list _ k (omega arith) c.loop-found.invariant
    (λ q. c.if-number.false (c.number.ensures ∙ ap segment_number (get_or-take c.args.held list k (segment 0) within) ∙ q))
