-- `sound_lists::marks::standing_from` meets its contract: `count` is the count of the first marks of the part. Assumes nothing.
use Prim.Native.Nat.{ℕ, ◌+◌}
use mathlib.Core.Path.{ap, ◌∙◌}
use mathlib.Core.Bool.{Bool, not}
use native.Mathlib.Omega.{arith}
use mir.Val.{bool_byte}
use lib.Dec.{eqb}
use lib.ListN.{get_or}
use Rattle.combine.specs.Laws.Any.{byte-few}
use Rattle.combine.specs.Laws.Counts.{count-start, count_turn}
use Rattle.sound_lists.specs.Marks.{is_marked}
use Rattle.sound_lists.proofs.marks.standing_from.Goals as goal

pub loop-place-init : goal.loop-place-init
loop-place-init c = (omega arith, count-start _)

pub overflow_add-count-in-loop-place : goal.overflow_add-count-in-loop-place
overflow_add-count-in-loop-place c = omega (arith, byte-few (not (eqb (get_or c.args.marks.now (c.args.start + c.loop-place.place) 0) 0)))

pub loop-place-preserved : goal.loop-place-preserved
unfolding is_marked
loop-place-preserved c =
    let l = c.loop-place in
    let f : ℕ → Bool = λ j. is_marked c.args.marks.now (c.args.start + j) in
    (omega (arith, byte-few (f l.place)), ap (λ (n : ℕ). n + bool_byte (f l.place)) l.invariant.1 ∙ count_turn f l.place)
