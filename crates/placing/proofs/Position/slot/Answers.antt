-- `placing::Position::slot` meets its contract. Assumes nothing.
use Rattle.placing.proofs.Laws.{places-code}
use Rattle.placing.specs.Placing.{slot_of}
use Rattle.placing.proofs.Position.slot.Goals as goal

pub overflow_sub-result : goal.overflow_sub-result
overflow_sub-result c =
    let a = c.args in places-code a.species c.requires.2 a.begin.0 a.self.0 _ _ c.requires.1 c.stretch-first.ensures c.stretch.ensures

pub returns : goal.returns
unfolding slot_of
returns c = cc
