-- `sound_lists::distinct` meets its contract. Assumes nothing.
use native.Mathlib.Omega.{arith}
use Rattle.sound_lists.proofs.Lists.{decided}
use Rattle.sound_lists.proofs.distinct.Goals as goal

pub overflow_add-result : goal.overflow_add-result
overflow_add-result c = omega (arith, c.mark_records-filed.ensures.few, c.mark_openings-opened.ensures.few)

pub returns : goal.returns
returns c = decided _ c.requires _ _ _ _ _ _ _ c.mark_records-filed.ensures c.mark_openings-opened.ensures c.standing.ensures
