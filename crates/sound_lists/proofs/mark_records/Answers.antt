-- `sound_lists::mark_records` meets its contract: the records before `place` are marked. Assumes nothing.
use native.Mathlib.Omega.{arith}
use Rattle.sound_lists.proofs.Lists.{passes_none, passes-more}
use Rattle.sound_lists.proofs.mark_records.Goals as goal

pub loop-place-init : goal.loop-place-init
loop-place-init c = passes_none _ _ _

pub mark_record-set-requires : goal.mark_record-set-requires
mark_record-set-requires c = (c.requires, omega arith)

pub overflow_add-set : goal.overflow_add-set
overflow_add-set c = omega (arith, c.loop-place.invariant.few, c.mark_record-set.ensures.few)

pub loop-place-preserved : goal.loop-place-preserved
loop-place-preserved c =
    let l = c.loop-place in
    passes-more _ _ _ _ l.place _ _ _ _ _ (omega arith) l.invariant c.mark_record-set.ensures
