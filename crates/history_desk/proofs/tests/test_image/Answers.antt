use Rattle.history_desk.specs.Speaking.{other-tests}
use Rattle.history_desk.proofs.tests.test_image.Goals as goal

pub returns-then-k-gt-LAST_IMAGE : goal.returns-then-k-gt-LAST_IMAGE
returns-then-k-gt-LAST_IMAGE c = search other-tests

pub returns : goal.returns
returns c = search other-tests
