-- `call_fill_run::fill_run` meets its contract. Assumes nothing.
use borrow.Author.Rules.{rules}
use Rattle.call_fill_run.proofs.Admits.{handing}
use Rattle.call_fill_run.proofs.fill_run.Goals as goal

pub returns-in-Ok : goal.returns-in-Ok
returns-in-Ok c = search (handing, rules)

pub returns-in-Err : goal.returns-in-Err
returns-in-Err c = search (handing, rules)
