-- `sound_lists::mark_openings` meets its contract: the openings before `entry` are marked. Assumes nothing.
use native.Mathlib.Omega.{arith}
use Rattle.sound_lists.proofs.Lists.{passes_none, passes-more}
use Rattle.sound_lists.proofs.mark_openings.Goals as goal

pub loop-entry-init : goal.loop-entry-init
loop-entry-init c = passes_none _ _ _

pub mark_opening-set-requires : goal.mark_opening-set-requires
mark_opening-set-requires c = (c.requires, omega arith)

pub overflow_add-set : goal.overflow_add-set
overflow_add-set c = omega (arith, c.loop-entry.invariant.few, c.mark_opening-set.ensures.few)

pub loop-entry-preserved : goal.loop-entry-preserved
loop-entry-preserved c =
    let l = c.loop-entry in
    passes-more _ _ _ _ l.entry _ _ _ _ _ (omega arith) l.invariant c.mark_opening-set.ensures
