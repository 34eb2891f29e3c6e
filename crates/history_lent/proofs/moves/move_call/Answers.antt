use native.Mathlib.Omega.{arith}
use Rattle.history_lent.specs.MoveLaws.{moved-into, move-calls}
use Rattle.history_lent.proofs.moves.move_call.Goals as goal

pub returns-then-from-gt-LAST_IMAGE : goal.returns-then-from-gt-LAST_IMAGE
returns-then-from-gt-LAST_IMAGE c = search move-calls

pub returns-then-into-gt-LAST_IMAGE : goal.returns-then-into-gt-LAST_IMAGE
returns-then-into-gt-LAST_IMAGE c = search move-calls

pub returns-then-from-into : goal.returns-then-from-into
returns-then-from-into c = search move-calls

pub returns-then-others-ne-OTHERS_BUFFER : goal.returns-then-others-ne-OTHERS_BUFFER
returns-then-others-ne-OTHERS_BUFFER c = search move-calls

pub returns : goal.returns
returns c =
    let a = c.args in
    moved-into a.lengths a.climbs a.i a.j a.segments a.others.now (omega arith) (omega arith) c.if-from-into.false c.if-others-ne-OTHERS_BUFFER.false _ _ c.lent-n.ensures.0 c.lent-n.ensures.1 c.lent-m.ensures.0 _ c.copy_from_slice.ensures.after c.moved.result _ _ c.replied.ensures c.moved.ensures
