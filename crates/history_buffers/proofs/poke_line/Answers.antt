use Rattle.history_buffers.specs.Laws.{lines}
use Rattle.history_buffers.proofs.poke_line.Goals as goal

pub returns-in_default : goal.returns-in_default
returns-in_default c = search (lines, c.in_default.ensures)

pub returns : goal.returns
returns c = search (lines, c.in-Some.ensures)
