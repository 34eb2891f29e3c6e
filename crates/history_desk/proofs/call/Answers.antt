use Rattle.history_desk.specs.Speaking.{lent-calls}
use Rattle.history_desk.proofs.call.Goals as goal

pub returns : goal.returns
returns c = search lent-calls
