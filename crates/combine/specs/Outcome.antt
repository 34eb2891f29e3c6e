-- What a call answers and leaves, over any kind of state. Assumes nothing.
use Rattle.std.specs.Prelude.{ℕ}
use Rattle.combine.specs.Verdict.{Verdict, refused, done, Said}

-- the answer, in document 01's numbers, and all of the state afterwards
pub record Outcome (S : Type 0) : Type 0 where
  pub answer : Said
  pub after : S

module _ {S : Type 0} where
  abbrev pub outcome_of : Said → S → Outcome S
  outcome_of a x = record { answer = a; after = x }

  -- "Every refusal leaves store, tables and image buffer as they stood": a refusal carries nothing but its number
  unfoldable pub settle : S → Verdict (ℕ × S) → Outcome S
  settle x (refused n) = outcome_of (refused n) x
  settle x (done c) = outcome_of (done c.0) c.1
