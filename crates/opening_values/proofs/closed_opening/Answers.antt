-- `opening_values::closed_opening` meets its contract. Assumes nothing.
use Rattle.opening_values.proofs.Values.{closed-made}
use Rattle.opening_values.proofs.closed_opening.Goals as goal

pub returns : goal.returns
returns c = closed-made _ _ c.of-none.ensures c.of-no_segment.ensures
