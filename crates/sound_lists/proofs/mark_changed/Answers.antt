-- `sound_lists::mark_changed` meets its contract: the changed ones of the first `k` segments are marked. Assumes nothing.
use Prim.Native.Nat.{◌+◌}
use mathlib.Core.Path.{ap, ◌∙◌}
use mathlib.Core.Bool.{not}
use native.Mathlib.Omega.{arith}
use Rattle.placing.specs.declared.Segment.{Segment}
use Rattle.sound_lists.specs.Rows.{cell_from}
use Rattle.sound_lists.specs.Shared.{has_at}
use Rattle.sound_lists.proofs.Marking.{marked-none, marked_more, few-one}
use Rattle.sound_lists.proofs.mark_changed.Goals as goal

pub loop-k-init : goal.loop-k-init
loop-k-init c = (omega arith, marked-none _ _ _)

pub mark_unshared-set-requires : goal.mark_unshared-set-requires
mark_unshared-set-requires c =
    let l = c.loop-k in
    omega (arith, c.requires.0.low l.k (omega arith), ap (λ (g : Segment). g.0) c.of-segment.ensures)

pub overflow_add-set : goal.overflow_add-set
overflow_add-set c = omega (arith, few-one _ _ _ _ _ c.mark_unshared-set.ensures)

pub loop-k-preserved : goal.loop-k-preserved
loop-k-preserved c =
    let l = c.loop-k in
    let row = c.args.row in
    let filed = c.args.filed in
    let same = ap (λ (g : Segment). g.0) c.of-segment.ensures in
    let shared = c.has_at-shared.ensures ∙ ap (has_at (cell_from c.args.tables.now filed.start) filed.held filed.first (row.first + l.k)) same in
    (omega (arith, few-one _ _ _ _ _ c.mark_unshared-set.ensures), marked_more _ _ _ l.k l.marks _ l.set _ _ _ l.invariant.1 c.mark_unshared-set.ensures (ap not shared) same)
