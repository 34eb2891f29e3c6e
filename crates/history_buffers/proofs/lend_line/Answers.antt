use Rattle.history_buffers.specs.Laws.{lending}
use Rattle.history_buffers.proofs.lend_line.Goals as goal

pub returns-in_default : goal.returns-in_default
returns-in_default c = search (lending, c.in_default.ensures)

pub returns : goal.returns
returns c = search (lending, c.in-Some.ensures)
