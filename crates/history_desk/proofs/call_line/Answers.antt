use Rattle.history_desk.specs.Speaking.{call-lines}
use Rattle.history_desk.proofs.call_line.Goals as goal

pub returns-in_default : goal.returns-in_default
returns-in_default c = search (call-lines, c.in_default.ensures)

pub returns : goal.returns
returns c = search (call-lines, c.in-Some.ensures)
