use Rattle.run_takes.proofs.Laws.{fars}
use Rattle.run_takes.proofs.how_far.Goals as goal

pub returns-then-pointer-eq0 : goal.returns-then-pointer-eq0
returns-then-pointer-eq0 c = search fars

pub returns : goal.returns
returns c = search fars
