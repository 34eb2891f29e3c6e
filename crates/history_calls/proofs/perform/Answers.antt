use Rattle.history_calls.specs.Telling.{heard}
use Rattle.history_calls.proofs.perform.Goals as goal

pub returns-in-Some : goal.returns-in-Some
returns-in-Some c = search (heard, c.in-Some.ensures)

pub returns-in-None : goal.returns-in-None
returns-in-None c = search (heard, c.in-None.ensures)
