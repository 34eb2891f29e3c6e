-- What a method of an opening that can refuse told. Assumes nothing.
use Rattle.std.specs.Prelude.{ℕ, Result, Ok, Err}
use Rattle.combine.specs.Verdict.{refused, done}
use Rattle.combine.specs.Outcome.{Outcome, outcome_of}
use Rattle.answers.specs.declared.Refusal.{Refusal}
use Rattle.answers.specs.Said.{refusal_number}
use Rattle.tables.specs.declared.Opening.{Opening}

-- the number of the answer, and the opening as it is then; a refusal leaves it as it was
abbrev pub answered : Opening → Result (ℕ × Opening) Refusal → Outcome Opening
answered o (Ok c) = outcome_of (done c.0) c.1
answered o (Err r) = outcome_of (refused (refusal_number r)) o
