-- `call_fill_run::run_on` meets its contract: what is filled, and then the rest, is the whole. Assumes nothing.
use borrow.Author.Rules.{rules}
use Rattle.call_fill_run.proofs.Turns.{loops}
use Rattle.call_fill_run.proofs.run_on.Goals as goal

pub loop-n-init : goal.loop-n-init
loop-n-init c = search (loops, rules)

pub returns-in-Err : goal.returns-in-Err
returns-in-Err c = search (loops, rules)

pub loop-n-preserved : goal.loop-n-preserved
loop-n-preserved c = search (loops, rules)

pub returns : goal.returns
returns c = search (loops, rules)
