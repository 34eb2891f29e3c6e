-- `opening_values::unused_record` meets its contract. Assumes nothing.
use Rattle.opening_values.proofs.Values.{unused-made}
use Rattle.opening_values.proofs.unused_record.Goals as goal

pub returns : goal.returns
returns c = unused-made _ _ c.of-none.ensures c.of-no_segment.ensures
