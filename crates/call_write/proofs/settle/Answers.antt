use Rattle.call_write.proofs.Carries.{settle-done}
use Rattle.call_write.proofs.settle.Goals as goal

pub returns : goal.returns
returns c = search (settle-done)
