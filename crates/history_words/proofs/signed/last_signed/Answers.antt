use Rattle.history_words.proofs.Laws.{signs}
use Rattle.history_words.proofs.signed.last_signed.Goals as goal

pub returns-then-line-at : goal.returns-then-line-at
returns-then-line-at c = search signs

pub returns : goal.returns
returns c = search signs
