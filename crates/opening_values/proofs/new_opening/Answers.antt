-- `opening_values::new_opening` meets its contract. Assumes nothing.
use Rattle.opening_values.proofs.Values.{new-made}
use Rattle.opening_values.proofs.new_opening.Goals as goal

pub returns : goal.returns
returns c = new-made _ _ _ _ c.of-one.ensures c.of-none.ensures c.of-no_segment.ensures
