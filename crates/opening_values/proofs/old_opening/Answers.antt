-- `opening_values::old_opening` meets its contract. Assumes nothing.
use Rattle.opening_values.proofs.Values.{old-made}
use Rattle.opening_values.proofs.old_opening.Goals as goal

pub returns : goal.returns
returns c =
    let a = c.args in
    old-made a.work a.place a.filed _ _ _ c.of-none.ensures c.work_start-start.ensures c.permit.ensures
