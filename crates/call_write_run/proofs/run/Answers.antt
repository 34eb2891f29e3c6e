-- `call_write_run::run` meets its contract. Assumes nothing.
use Rattle.call_write_run.proofs.Going.{running}
use Rattle.call_write_run.proofs.run.Goals as goal

pub returns-in-Ok : goal.returns-in-Ok
returns-in-Ok c = search running
