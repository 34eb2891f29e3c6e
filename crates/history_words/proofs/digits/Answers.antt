use Rattle.std.proofs.Common.{arith, ◌∙◌, sym}
use Rattle.history_words.specs.Laws.{no-digit, digits-large, digits-on, digits-end}
use Rattle.history_words.proofs.digits.Goals as goal

pub returns-then-not-is_ascii_digit : goal.returns-then-not-is_ascii_digit
returns-then-not-is_ascii_digit c =
    no-digit c.args.word.now c.loop-byte.value c.loop-byte.byte-index c.loop-byte.invariant (omega arith) (sym c.is_ascii_digit.ensures.value ∙ c.if-not-is_ascii_digit.true)

pub returns-in_err-checked_mul : goal.returns-in_err-checked_mul
returns-in_err-checked_mul c =
    c.from_residual.ensures
    ∙ digits-large c.args.word.now c.loop-byte.value c.loop-byte.byte-index c.loop-byte.invariant (omega arith) (sym c.is_ascii_digit.ensures.value ∙ c.if-not-is_ascii_digit.false)
    (omega (arith, c.in_err-checked_mul.ensures))

pub returns-in_err-value : goal.returns-in_err-value
returns-in_err-value c =
    c.from_residual-in_err-value.ensures
    ∙ digits-large c.args.word.now c.loop-byte.value c.loop-byte.byte-index c.loop-byte.invariant (omega arith) (sym c.is_ascii_digit.ensures.value ∙ c.if-not-is_ascii_digit.false)
    (omega (arith, c.in_err-value.ensures))

pub loop-byte-preserved : goal.loop-byte-preserved
loop-byte-preserved c =
    digits-on c.args.word.now c.loop-byte.value c.loop-byte.byte-index c.loop-byte.invariant (omega arith) (sym c.is_ascii_digit.ensures.value ∙ c.if-not-is_ascii_digit.false) _
    (omega (arith, c.in_ok-value.ensures)) (omega (arith, c.in_ok-checked_mul.ensures, c.in_ok-value.ensures))

pub returns : goal.returns
returns c = digits-end c.args.word.now c.loop-byte.value c.loop-byte.byte-index c.loop-byte.invariant (omega arith)
