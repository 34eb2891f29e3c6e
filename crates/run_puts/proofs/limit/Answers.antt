use Rattle.run_puts.proofs.Laws.{limits}
use Rattle.run_puts.proofs.limit.Goals as goal

pub returns-then-pointer-eq1 : goal.returns-then-pointer-eq1
returns-then-pointer-eq1 c = search limits

pub returns : goal.returns
returns c = search limits
