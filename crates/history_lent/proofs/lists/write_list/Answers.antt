use native.Mathlib.Omega.{arith}
use Rattle.history_lent.specs.ListLaws.{on-lists, rest-short}
use Rattle.history_lent.proofs.lists.write_list.Goals as goal

pub overflow_cast-result : goal.overflow_cast-result
overflow_cast-result c =
    let short = rest-short _ _ _ _ _ _ _ _ _ _ c.write_run-rest.ensures in
    omega (arith, short)

pub returns : goal.returns
returns c = search on-lists
