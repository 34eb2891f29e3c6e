use native.Mathlib.Omega.{arith}
use Rattle.history_lent.specs.ListLaws.{filled-into, run-calls}
use Rattle.history_lent.proofs.lists.run_call.Goals as goal

pub returns-then-at-gt-LAST_LIST : goal.returns-then-at-gt-LAST_LIST
returns-then-at-gt-LAST_LIST c = search run-calls

pub returns-then-others-ne-OTHERS_BUFFER : goal.returns-then-others-ne-OTHERS_BUFFER
returns-then-others-ne-OTHERS_BUFFER c = search run-calls

pub returns-then-writes : goal.returns-then-writes
returns-then-writes c = search run-calls

pub returns : goal.returns
returns c =
    let a = c.args in
    filled-into a.lengths a.user a.entry a.pointer a.store.now a.tables.now _ _ c.lent-s.ensures.0 c.lent-t.ensures.0 a.others.now a.k _ c.lent-n.ensures.0 (omega arith) c.if-others-ne-OTHERS_BUFFER.false _ _ _ _ c.if-writes.false c.fill_list.ensures
