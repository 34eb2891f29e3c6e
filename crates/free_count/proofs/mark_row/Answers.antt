-- `free_count::mark_row` meets its contract: unmarked is what was unmarked and is not among the numbers of the row before `number`. Assumes nothing.
use Prim.Native.Nat.{◌<◌}
use mathlib.Core.Path.{refl, ◌∙◌}
use native.Mathlib.Omega.{arith}
use lib.ListN.{length, get_or, set, length-set}
use Rattle.combine.specs.Laws.Any.{not-in}
use Rattle.free_count.proofs.Marks.{marks-start, marks-turn, marks-done, not_at, mark-one}
use Rattle.free_count.proofs.mark_row.Goals as goal

pub loop-number-init : goal.loop-number-init
loop-number-init c = (refl, marks-start (not_at c.args.row.now) c.args.marks.now)

pub overflow_cast-marks : goal.overflow_cast-marks
overflow_cast-marks c =
    let low : get_or c.args.row.now c.loop-number.number-index 0 < 1024 = c.requires.1 c.loop-number.number-index (omega arith) in
    omega arith

pub bounds-marks-number : goal.bounds-marks-number
bounds-marks-number c = c.requires.1 _ (omega arith)

pub loop-number-preserved : goal.loop-number-preserved
loop-number-preserved c =
    let l = c.loop-number in
    let row = c.args.row.now in
    let low : get_or row l.number-index 0 < 1024 = c.requires.1 l.number-index (omega arith) in
    (simp length-set l.invariant.0, marks-turn (not_at row) c.args.marks.now l.number-index l.marks (set l.marks (get_or row l.number-index 0) 1) l.invariant.1 (λ g. mark-one l.marks (get_or row l.number-index 0) g (omega arith)))

pub returns : goal.returns
returns c =
    let l = c.loop-number in
    record {
      size = l.invariant.0 ∙ c.requires.0;
      by_index = marks-done (not_at c.args.row.now) c.args.marks.now l.number-index (length c.args.row.now) l.marks _ (omega arith) (λ g. not-in g c.args.row.now) l.invariant.1;
    }
