use Rattle.std.proofs.Common.{◌∙◌}
use Rattle.history_words.specs.Reading.{none-at-end, number-read}
use Rattle.history_words.proofs.number_at.Goals as goal

pub returns-then-line-at : goal.returns-then-line-at
returns-then-line-at c = none-at-end _ _ c.if-line-at.true

pub returns-in_err-number : goal.returns-in_err-number
returns-in_err-number c = c.from_residual.ensures ∙ number-read _ _ _ _ c.if-line-at.false c.word_end-to.ensures.value c.in_err-number.ensures

pub returns : goal.returns
returns c = number-read _ _ _ _ c.if-line-at.false c.word_end-to.ensures.value c.in_ok-number.ensures
