-- What a contract says of the code's answer, and of the cells of store, tables and image. Assumes nothing.
use Rattle.std.specs.Prelude.{ℕ, List}
use Rattle.answers.specs.Said.{Answer, said}
use Rattle.combine.specs.Outcome.{Outcome, outcome_of}
use Rattle.cells.specs.Outcomes.{Saved, saved}

abbrev pub saved_outcome : Answer → List ℕ → List ℕ → List ℕ → Outcome Saved
saved_outcome r s t img = outcome_of (said r) (saved s t img)
