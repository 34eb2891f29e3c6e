-- `free_count::mark_lists` meets its contract: unmarked is what was unmarked and is in none of the first `list` lists. Assumes nothing.
use mathlib.Core.Path.{◌∙◌}
use mathlib.Core.Bool.{not, ◌&&◌}
use native.Mathlib.Omega.{arith}
use lib.ListN.{get_or}
use lib.Dec.{eqb}
use Rattle.combine.specs.Lists.{is_in}
use Rattle.placing.specs.Sizes.{lists}
use Rattle.free_count.specs.Lists.{free-rows}
use Rattle.free_count.proofs.Cells.{lent_row, lent_fits}
use Rattle.free_count.proofs.Marks.{marks-start, marks-turn, marks-done, not_in, lent-low}
use Rattle.free_count.proofs.mark_lists.Goals as goal

pub loop-list-init : goal.loop-list-init
loop-list-init c = (c.requires.1, marks-start (not_in c.args.tables.now) c.args.marks.now)

pub overflow_add-start : goal.overflow_add-start
overflow_add-start c =
    let f = lent_fits c.args.tables.now c.requires.0 c.loop-list.list _ _ (omega arith) c.row_start-start.ensures c.held_in-count.ensures in
    let l = c.requires.0.0 in
    omega arith

pub offset_bounds-tables-start : goal.offset_bounds-tables-start
offset_bounds-tables-start c =
    let f = lent_fits c.args.tables.now c.requires.0 c.loop-list.list _ _ (omega arith) c.row_start-start.ensures c.held_in-count.ensures in
    let l = c.requires.0.0 in
    omega arith

pub slice_bounds-mark_row-end : goal.slice_bounds-mark_row-end
slice_bounds-mark_row-end c =
    lent_fits c.args.tables.now c.requires.0 c.loop-list.list _ _ (omega arith) c.row_start-start.ensures c.held_in-count.ensures

pub mark_row-requires : goal.mark_row-requires
mark_row-requires c =
    let l = c.loop-list in
    (l.invariant.0, lent-low c.args.tables.now c.requires.0 l.list (omega arith) _ (lent_row c.args.tables.now l.list _ _ c.row_start-start.ensures c.held_in-count.ensures))

pub loop-list-preserved : goal.loop-list-preserved
loop-list-preserved c =
    let l = c.loop-list in
    let row = lent_row c.args.tables.now l.list _ _ c.row_start-start.ensures c.held_in-count.ensures in
    (c.mark_row.ensures.size, marks-turn (not_in c.args.tables.now) c.args.marks.now l.list l.marks c.mark_row.new.marks l.invariant.1 (λ g. c.mark_row.ensures.by_index g ∙ (λ j. eqb (get_or l.marks g 0) 0 && not (is_in g (row j)))))

pub returns : goal.returns
returns c =
    let l = c.loop-list in
    record {
      size = l.invariant.0;
      by_index = marks-done (not_in c.args.tables.now) c.args.marks.now l.list lists l.marks _ (omega arith) (free-rows c.args.tables.now c.requires.0) l.invariant.1;
    }
