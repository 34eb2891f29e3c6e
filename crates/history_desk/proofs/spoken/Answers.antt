use Rattle.history_desk.specs.Speaking.{spoken-lines}
use Rattle.history_desk.proofs.spoken.Goals as goal

pub returns-in-Some : goal.returns-in-Some
returns-in-Some c = search (spoken-lines, c.in-Some.ensures)

pub returns-in-None : goal.returns-in-None
returns-in-None c = search (spoken-lines, c.in-None.ensures)
