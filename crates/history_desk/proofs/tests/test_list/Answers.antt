use Rattle.history_desk.specs.Speaking.{other-tests}
use Rattle.history_desk.proofs.tests.test_list.Goals as goal

pub returns-then-k-gt-LAST_LIST : goal.returns-then-k-gt-LAST_LIST
returns-then-k-gt-LAST_LIST c = search other-tests

pub returns : goal.returns
returns c = search other-tests
