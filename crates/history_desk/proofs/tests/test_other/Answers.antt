use Rattle.history_desk.specs.Speaking.{other-tests}
use Rattle.history_desk.proofs.tests.test_other.Goals as goal

pub returns-then-others-ne-OTHERS_BUFFER : goal.returns-then-others-ne-OTHERS_BUFFER
returns-then-others-ne-OTHERS_BUFFER c = search other-tests

pub returns : goal.returns
returns c = search other-tests
