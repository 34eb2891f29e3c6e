use Rattle.history_lent.specs.MoveLaws.{moved-either-way}
use Rattle.history_lent.proofs.moves.moved.Goals as goal

pub returns-then-climbs : goal.returns-then-climbs
returns-then-climbs c = search moved-either-way

pub returns : goal.returns
returns c = search moved-either-way
