-- `moves_carry::renumber_at` meets its contract. Assumes nothing.
use native.Mathlib.Omega.{arith}
use Rattle.tables.specs.Layout.{segments_in}
use Rattle.moves_carry.specs.Numbers.{mapped}
use Rattle.moves_carry.proofs.Row.{lent-few, lent-low, lent-renumbered, extent-cells}
use Rattle.moves_carry.proofs.renumber_at.Goals as goal

pub held_by-held-requires : goal.held_by-held-requires
held_by-held-requires c =
    let t = c.args.tables.now in
    extent-cells (mapped c.args.numbers.now) t c.requires.0 c.args.place c.requires.1 (segments_in t) c.requires.3

pub overflow_add-beyond : goal.overflow_add-beyond
overflow_add-beyond c =
    let t = c.args.tables.now in
    let few = lent-few (mapped c.args.numbers.now) t c.requires.0 c.args.place c.requires.1 (segments_in t) c.requires.3 c.held_by-held.result c.held_by-held.ensures in
    omega (arith, c.requires.1)

pub offset_bounds-tables-start : goal.offset_bounds-tables-start
offset_bounds-tables-start c = omega (arith, c.requires.1)

pub slice_bounds-renumber_row-end : goal.slice_bounds-renumber_row-end
slice_bounds-renumber_row-end c =
    let t = c.args.tables.now in
    let few = lent-few (mapped c.args.numbers.now) t c.requires.0 c.args.place c.requires.1 (segments_in t) c.requires.3 c.held_by-held.result c.held_by-held.ensures in
    omega (arith, c.requires.0, c.requires.1)

pub renumber_row-requires : goal.renumber_row-requires
renumber_row-requires c =
    let t = c.args.tables.now in
    let held = c.held_by-held in
    lent-low (mapped c.args.numbers.now) t c.requires.0 c.args.place c.requires.1 (segments_in t) c.requires.3 c.requires.2 held.result held.ensures

pub returns : goal.returns
returns c =
    let t = c.args.tables.now in
    let held = c.held_by-held in
    lent-renumbered (mapped c.args.numbers.now) t c.requires.0 c.args.place c.requires.1 (segments_in t) c.requires.3 held.result held.ensures c.renumber_row.new.row c.renumber_row.ensures
