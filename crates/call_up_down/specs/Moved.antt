-- What a contract says of the code's answer, and of the lent buffer's cells. Assumes nothing.
use Rattle.answers.specs.Said.{Answer, said}
use Rattle.combine.specs.Outcome.{Outcome, outcome_of}
use Rattle.placing.specs.Sizes.{Cells}

abbrev pub moved_outcome : Answer → (buffer : Cells) → Outcome Cells
moved_outcome r buffer = outcome_of (said r) buffer
