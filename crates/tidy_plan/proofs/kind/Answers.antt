-- `tidy_plan::kind` meets its contract. Assumes nothing.
use Rattle.tidy_plan.proofs.Sorting.{kinds}
use Rattle.tidy_plan.proofs.kind.Goals as goal

pub returns-then-low-number : goal.returns-then-low-number
returns-then-low-number c = search kinds

pub returns-then-mark-ne0 : goal.returns-then-mark-ne0
returns-then-mark-ne0 c = search kinds

pub returns-then-number-low : goal.returns-then-number-low
returns-then-number-low c = search kinds

pub returns : goal.returns
returns c = search kinds
