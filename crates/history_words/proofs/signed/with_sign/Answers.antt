use Rattle.std.proofs.Common.{◌∙◌}
use Rattle.history_words.proofs.Laws.{with-minus, without, sign-of-none}
use Rattle.history_words.proofs.signed.with_sign.Goals as goal

pub returns-in_err-digits : goal.returns-in_err-digits
returns-in_err-digits c = c.from_residual.ensures ∙ sign-of-none _ _ c.in_err-digits.was

pub returns-then-minus : goal.returns-then-minus
returns-then-minus c = with-minus c.args.minus c.args.digits _ _ c.in_ok-digits.was c.from-size.ensures c.from-size.type_inv _ _ c.ok.ensures.value c.if-minus.true c.try_from.ensures

pub returns : goal.returns
returns c = without c.args.minus c.args.digits _ _ c.in_ok-digits.was c.from-size.ensures c.from-size.type_inv _ _ c.ok-2.ensures.value c.if-minus.false c.try_from-2.ensures
