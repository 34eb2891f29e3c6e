-- `tidy_plan::plan` meets its contract: the kinds are what the house says of the segments. Assumes nothing.
use native.Mathlib.Omega.{arith}
use mathlib.Core.Path.{◌≡◌, sym, ◌∙◌}
use Rattle.combine.specs.Below.{count_below}
use Rattle.segments.specs.Moves.{is_high}
use Rattle.cells.specs.Says.{house_of}
use Rattle.tidy_plan.proofs.Planned.{none-high, count_small, plan-count, kinds-enough, kinds-few, kinds-counted, plan-size, plan-moves}
use Rattle.tidy_plan.proofs.plan.Goals as goal

pub overflow_sub-low : goal.overflow_sub-low
overflow_sub-low c = count_small _ _ _ c.unmarked.ensures

pub unmarked-count-requires : goal.unmarked-count-requires
unmarked-count-requires c = omega (arith, c.requires.0.3)

pub returns-then-count-eq0 : goal.returns-then-count-eq0
returns-then-count-eq0 c =
    let t = c.args.tables.now in
    let u = c.unmarked in
    let gaps = c.unmarked-count in
    let m = c.mark_lists in
    let none : 0 ≡ count_below (house_of t).segments (is_high (house_of t)) =
    sym c.if-count-eq0.true ∙ plan-count t m.new.marks u.result m.ensures.by_index u.ensures gaps.result gaps.ensures in
    record {
      size = (c.requires.1, omega arith);
      count = none;
      room_after = none-high (house_of t) none;
    }

pub sort-requires : goal.sort-requires
sort-requires c =
    (c.mark_lists.ensures.size, c.requires.0.3)

pub pairs-requires : goal.pairs-requires
pairs-requires c =
    let t = c.args.tables.now in
    let m = c.mark_lists in
    let u = c.unmarked in
    let gaps = c.unmarked-count in
    let k = c.sort in
    let kinds = c.sort.new.marks in
    let many = kinds-counted t m.new.marks u.result m.ensures.by_index u.ensures kinds c.requires.0 k.ensures gaps.result gaps.ensures in (
      c.requires.0.3,
      many,
      omega (arith, many, kinds-enough t m.new.marks u.result m.ensures.by_index u.ensures kinds c.requires.0 k.ensures),
      omega (arith, many, c.requires.1, kinds-few t m.new.marks u.result m.ensures.by_index u.ensures kinds c.requires.0 k.ensures),
    )

pub returns : goal.returns
returns c =
    let t = c.args.tables.now in
    let m = c.mark_lists in
    let u = c.unmarked in
    let gaps = c.unmarked-count in
    let k = c.sort in
    let room = c.args.room.now in
    let p = c.pairs in
    let after = c.pairs.new.room in record {
      size = plan-size t m.new.marks u.result m.ensures.by_index u.ensures k.new.marks c.requires.0 k.ensures gaps.result gaps.ensures room after c.requires.1 p.ensures;
      count = plan-count t m.new.marks u.result m.ensures.by_index u.ensures gaps.result gaps.ensures;
      room_after = plan-moves t m.new.marks u.result m.ensures.by_index u.ensures k.new.marks c.requires.0 k.ensures gaps.result gaps.ensures room after c.requires.1 p.ensures;
    }
