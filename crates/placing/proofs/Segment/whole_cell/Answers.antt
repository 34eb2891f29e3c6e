-- `placing::Segment::whole_cell` meets its contract. Assumes nothing.
use mathlib.Core.Path.{sym}
use Rattle.placing.specs.Laws.Whole.{whole-cell}
use Rattle.placing.proofs.Segment.whole_cell.Goals as goal

pub returns : goal.returns
returns c =
    let a = c.args in λ i. record { 0 = sym (whole-cell a.self a.position) i }
