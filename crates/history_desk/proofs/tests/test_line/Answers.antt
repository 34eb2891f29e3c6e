use Rattle.history_desk.specs.Speaking.{test-lines}
use Rattle.history_desk.proofs.tests.test_line.Goals as goal

pub returns-then-line-at : goal.returns-then-line-at
returns-then-line-at c = search test-lines

pub returns : goal.returns
returns c = search test-lines
