-- `opening_steps::from_second` meets its contract. Assumes nothing.
use mathlib.Core.Path.{◌≡◌, refl, ap}
use native.Mathlib.Omega.{arith}
use borrow.Author.Rules.{rules}
use lib.ListN.{length, replicate, length-set}
use Rattle.placing.specs.declared.Segment.{Segment}
use Rattle.opening_steps.proofs.Steps.{second-turn, second-done}
use Rattle.opening_steps.proofs.from_second.Goals as goal

pub loop-slot-init : goal.loop-slot-init
loop-slot-init c = (refl, ap (λ (g : Segment). replicate 32 g) c.of-rest.ensures)

pub loop-slot-preserved : goal.loop-slot-preserved
loop-slot-preserved c =
    let list = c.args.list in
    let long : length list ≡ 32 = search rules in
    (simp length-set c.loop-slot.invariant.0, second-turn list c.loop-slot.rest c.loop-slot.slot long c.loop-slot.invariant.1 (omega arith) _ refl)

pub returns : goal.returns
returns c =
    let list = c.args.list in
    let long : length list ≡ 32 = search rules in
    second-done list c.loop-slot.rest c.loop-slot.slot long c.loop-slot.invariant.1 (omega arith)
