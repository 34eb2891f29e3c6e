-- `free_count::unmarked` meets its contract: `count` is the count below the index of `mark`. Assumes nothing.
use Prim.Native.Nat.{ℕ, ◌+◌}
use mathlib.Core.Path.{ap, ◌∙◌}
use mathlib.Core.Bool.{Bool}
use native.Mathlib.Omega.{arith}
use mir.Val.{bool_byte}
use lib.Dec.{eqb}
use lib.ListN.{get_or}
use Rattle.std.proofs.lemmas.List.{get_or-take, length-take-le}
use Rattle.combine.specs.Laws.Any.{byte-few}
use Rattle.combine.specs.Laws.Counts.{count-start, count_turn}
use Rattle.free_count.proofs.unmarked.Goals as goal

pub loop-mark-init : goal.loop-mark-init
loop-mark-init c = (omega arith, count-start _)

pub loop-mark-preserved : goal.loop-mark-preserved
loop-mark-preserved c =
    let l = c.loop-mark in
    let marks = c.args.marks.now in
    let f : ℕ → Bool = λ j. eqb (get_or marks j 0) 0 in
    let fits = length-take-le c.args.segments marks (omega (arith, c.requires, c.told-marks)) in
    let e = ap (λ (n : ℕ). eqb n 0) (get_or-take c.args.segments marks l.mark-index 0 (omega (arith, fits, c.loop-mark-test.true))) in
    (omega (arith, byte-few (f l.mark-index), ap bool_byte e), (λ j. l.invariant.1 j + bool_byte (e j)) ∙ count_turn f l.mark-index)
