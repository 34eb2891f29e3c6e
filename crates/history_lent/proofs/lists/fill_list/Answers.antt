use native.Mathlib.Omega.{arith}
use Rattle.history_lent.specs.ListLaws.{on-lists, many-short}
use Rattle.history_lent.proofs.lists.fill_list.Goals as goal

pub overflow_cast-result : goal.overflow_cast-result
overflow_cast-result c =
    let short = many-short _ _ _ _ _ _ _ _ _ _ c.fill_run-many.ensures in
    omega (arith, short)

pub returns : goal.returns
returns c = search on-lists
