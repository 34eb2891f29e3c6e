-- What a call that gives a signed number hands over: document 02, P5. Assumes nothing.
use Rattle.std.specs.Prelude.{ℤ}
use Rattle.combine.specs.Verdict.{Verdict, on_done}
use Rattle.combine.specs.Outcome.{Outcome}
use Rattle.numbers.specs.Numbers.{signed_of}
use Rattle.answers.specs.Said.{SignedAnswer, said_signed}
use Rattle.placing.specs.Sizes.{Cells}
use Rattle.cells.specs.Outcomes.{Lent, lent}

-- the answer, a signed number where it is done, and all of the cells afterwards
pub record SignedOutcome : Type 0 where
  pub answer : Verdict ℤ
  pub after : Lent

-- what a contract says of the code's answer and cells
unfoldable pub signed_outcome : SignedAnswer → (store tables : Cells) → SignedOutcome
signed_outcome r s t = record { answer = said_signed r; after = lent s t }

-- "take and give a signed number": the element's bits, read as the number that they stand for
unfoldable pub read_signed : Outcome Lent → SignedOutcome
read_signed o = record { answer = on_done signed_of o.answer; after = o.after }
