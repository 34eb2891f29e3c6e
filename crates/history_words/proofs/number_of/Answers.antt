use Rattle.std.proofs.Common.{true-eqb, false-eqb}
use Rattle.history_words.specs.Laws.{no-digits, many-digits, some-digits}
use Rattle.history_words.proofs.number_of.Goals as goal

pub returns-then-is_empty : goal.returns-then-is_empty
returns-then-is_empty c = no-digits _ (true-eqb _ _ c.if-is_empty.ensures)

pub returns-then-word-gt-MOST_DIGITS : goal.returns-then-word-gt-MOST_DIGITS
returns-then-word-gt-MOST_DIGITS c = many-digits _ c.if-word-gt-MOST_DIGITS.true

pub returns : goal.returns
returns c = some-digits _ _ c.digits.ensures (false-eqb _ _ c.if-is_empty.ensures) c.if-word-gt-MOST_DIGITS.false
