use Rattle.history_buffers.specs.Laws.{lines}
use Rattle.history_buffers.proofs.sum_line.Goals as goal

pub returns-then-no_number : goal.returns-then-no_number
returns-then-no_number c = search lines

pub returns : goal.returns
returns c = search lines
