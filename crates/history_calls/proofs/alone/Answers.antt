use Rattle.history_calls.specs.Telling.{counted}
use Rattle.history_calls.proofs.alone.Goals as goal

pub returns-then-eq : goal.returns-then-eq
returns-then-eq c = search counted

pub returns-then-eq-2 : goal.returns-then-eq-2
returns-then-eq-2 c = search counted

pub returns : goal.returns
returns c = search counted
