-- `open_choice::works_on_anothers` meets its contract. Assumes nothing.
use Rattle.open_choice.proofs.Chain.{not-for-work, for-work}
use Rattle.open_choice.proofs.works_on_anothers.Goals as goal

pub returns-then-not-work : goal.returns-then-not-work
returns-then-not-work c = search not-for-work

pub returns : goal.returns
returns c = search for-work
