use Rattle.history_lines.proofs.Looking.{row-found, row-passed, table-passed}
use Rattle.history_lines.proofs.spelling.meaning_of.Goals as goal

pub returns-then-eq : goal.returns-then-eq
returns-then-eq g c = row-found _ _ _ c.loop-row.invariant _ c.row-item.is c.loop-row-test.true _ c.eq.ensures c.if-eq.true

pub loop-row-preserved : goal.loop-row-preserved
loop-row-preserved g c = row-passed _ _ _ c.loop-row.invariant _ c.row-item.is c.loop-row-test.true _ c.eq.ensures c.if-eq.false

pub returns : goal.returns
returns g c = table-passed _ _ _ c.loop-row.invariant c.loop-row-test.false
