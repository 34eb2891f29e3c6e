-- `tables::Opening::rename` meets its contract. Assumes nothing.
use Rattle.tables.proofs.Outcomes.{rename-refused, rename-made}
use Rattle.tables.proofs.Opening.rename.Goals as goal

pub returns-then-self-ne1 : goal.returns-then-self-ne1
returns-then-self-ne1 c =
    let a = c.args in
    rename-refused a.self a.name c.if-self-ne1.true

pub returns : goal.returns
returns c =
    let a = c.args in
    rename-made a.self a.name c.if-self-ne1.false
