-- `call_write_run::write_run` meets its contract. Assumes nothing.
use Rattle.call_write_run.proofs.Going.{handing}
use Rattle.call_write_run.proofs.write_run.Goals as goal

pub returns-in-Ok : goal.returns-in-Ok
returns-in-Ok c = search handing

pub returns-in-Err : goal.returns-in-Err
returns-in-Err c = search handing
