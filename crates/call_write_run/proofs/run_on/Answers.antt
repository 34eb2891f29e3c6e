use borrow.Author.Rules.{rules}
use Rattle.call_write_run.proofs.Going.{going, turn-few, turn-stops}
use Rattle.call_write_run.proofs.run_on.Goals as goal

pub returns-in-Err : goal.returns-in-Err
returns-in-Err c = turn-stops _ _ _ _ _ _ _ c.loop-n.invariant.3 _ _ _ c.advance.ensures _ c.in-Err.is (search rules)

pub loop-n-preserved : goal.loop-n-preserved
loop-n-preserved c = (search (turn-few, rules), search rules, search rules, search going)

pub returns : goal.returns
returns c = search (going, rules)
