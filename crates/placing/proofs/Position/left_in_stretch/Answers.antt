-- `placing::Position::left_in_stretch` meets its contract. Assumes nothing.
use Rattle.placing.proofs.Laws.{left-code}
use Rattle.placing.proofs.Position.left_in_stretch.Goals as goal

pub overflow_sub-result-2 : goal.overflow_sub-result-2
overflow_sub-result-2 c =
    (left-code c.args.species c.requires.1 c.args.self.0 _ c.elements-size.ensures.0).0

pub returns : goal.returns
returns c =
    (left-code c.args.species c.requires.1 c.args.self.0 _ c.elements-size.ensures.0).1
