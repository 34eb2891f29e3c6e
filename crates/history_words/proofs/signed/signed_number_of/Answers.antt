use Rattle.std.proofs.Common.{◌∙◌}
use Rattle.history_words.proofs.Laws.{signed-empty, signed-minus, signed-plus}
use Rattle.history_words.proofs.signed.signed_number_of.Goals as goal

pub returns-in_err-first : goal.returns-in_err-first
returns-in_err-first c = c.from_residual.ensures ∙ signed-empty _ c.in_err-first.ensures.cases

pub returns-then-first-eq-MINUS : goal.returns-then-first-eq-MINUS
returns-then-first-eq-MINUS c = signed-minus _ _ _ c.in_ok-first.ensures.cases.0 _ _ c.if-first-eq-MINUS.true c.number_of.ensures c.with_sign.ensures

pub returns : goal.returns
returns c = signed-plus _ _ _ c.in_ok-first.ensures.cases.0 _ _ c.if-first-eq-MINUS.false c.number_of-2.ensures c.with_sign-2.ensures
