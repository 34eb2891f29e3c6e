-- `call_fill_run::run` meets its contract. Assumes nothing.
use Rattle.call_fill_run.proofs.Admits.{running}
use Rattle.call_fill_run.proofs.run.Goals as goal

pub run_on-requires : goal.run_on-requires
run_on-requires c = search running

pub returns-in-Ok : goal.returns-in-Ok
returns-in-Ok c = search running

pub returns-in-Err : goal.returns-in-Err
returns-in-Err c = search running
