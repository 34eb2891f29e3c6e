-- `sound_lists::marks::standing` meets its contract: `count` is the count of the first parts. Assumes nothing.
use Prim.Native.Nat.{ℕ, ◌*◌}
use mathlib.Core.Path.{◌≡◌, ap, ◌∙◌}
use native.Mathlib.Omega.{arith}
use Rattle.combine.specs.Below.{count_below}
use Rattle.combine.specs.Laws.Counts.{count-start}
use Rattle.placing.specs.Sizes.{most_segments}
use Rattle.sound_lists.specs.Marks.{is_marked, part_length, standing}
use Rattle.sound_lists.proofs.Marking.{part-more}
use Rattle.sound_lists.proofs.marks.standing.Goals as goal

pub loop-part-init : goal.loop-part-init
loop-part-init c = (omega arith, count-start _)

pub overflow_add-count : goal.overflow_add-count
overflow_add-count c = omega (arith, c.standing_from.ensures.1)

pub loop-part-preserved : goal.loop-part-preserved
loop-part-preserved c =
    let l = c.loop-part in
    let r = c.standing_from.ensures in
    (omega (arith, r.1), part-more _ l.part _ _ l.invariant.1 r.0)

pub returns : goal.returns
unfolding standing
returns c =
    let l = c.loop-part in
    let e : part_length * l.part ≡ most_segments = omega arith in
    l.invariant.1 ∙ ap (λ (n : ℕ). count_below n (is_marked c.args.marks.now)) e
