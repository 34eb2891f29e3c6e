use Rattle.history_calls.specs.Telling.{parted}
use Rattle.history_calls.proofs.numbers_line.Goals as goal

pub returns-then-eq : goal.returns-then-eq
returns-then-eq c = search parted

pub returns-in-Some : goal.returns-in-Some
returns-in-Some c = search (parted, c.in-Some.ensures)

pub returns-in-None : goal.returns-in-None
returns-in-None c = search (parted, c.in-None.ensures)
