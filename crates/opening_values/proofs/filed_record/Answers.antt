-- `opening_values::filed_record` meets its contract. Assumes nothing.
use Rattle.opening_values.proofs.Values.{filed-made}
use Rattle.opening_values.proofs.filed_record.Goals as goal

pub returns : goal.returns
returns c =
    let a = c.args in filed-made a.public a.user a.opening _ c.privacy.ensures
