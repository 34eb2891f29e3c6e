use native.Mathlib.Omega.{arith}
use Rattle.history_lent.specs.ImageLaws.{saved-to, image-calls}
use Rattle.history_lent.proofs.image_call.Goals as goal

pub returns-then-at-gt-LAST_IMAGE : goal.returns-then-at-gt-LAST_IMAGE
returns-then-at-gt-LAST_IMAGE c = search image-calls

pub returns-then-others-ne-OTHERS_BUFFER : goal.returns-then-others-ne-OTHERS_BUFFER
returns-then-others-ne-OTHERS_BUFFER c = search image-calls

pub returns-then-saves : goal.returns-then-saves
returns-then-saves c =
    let a = c.args in
    saved-to a.lengths a.store.now a.tables.now _ _ c.lent-s.ensures.0 c.lent-t.ensures.0 a.others.now a.k _ c.lent-n.ensures.0 (omega arith) c.if-others-ne-OTHERS_BUFFER.false _ c.save.result _ _ c.if-saves.true c.replied.ensures c.save.ensures

pub returns : goal.returns
returns c = search image-calls
