use Rattle.history_calls.specs.Telling.{spoken}
use Rattle.history_calls.proofs.by_name.named.Goals as goal

pub returns-in_default : goal.returns-in_default
returns-in_default c = search spoken

pub returns-in_default-named_at : goal.returns-in_default-named_at
returns-in_default-named_at c = search (spoken, c.in_default-named_at.ensures)

pub returns-then-line-to : goal.returns-then-line-to
returns-then-line-to c = search (spoken, c.in-Some-named_at.ensures)

pub returns : goal.returns
returns c = search (spoken, c.in-Some-named_at.ensures)
