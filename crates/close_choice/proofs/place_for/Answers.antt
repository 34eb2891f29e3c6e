-- `close_choice::place_for` meets its contract. Assumes nothing.
use Rattle.std.proofs.Common.{arith}
use Rattle.close_choice.proofs.Chain.{new-place, old-place}
use Rattle.close_choice.proofs.place_for.Goals as goal

pub returns-in-None : goal.returns-in-None
returns-in-None c = new-place _ _ _ (omega arith) c.unused.ensures

pub returns-in-Some : goal.returns-in-Some
returns-in-Some c = old-place _ _ _ c.in-Some.ensures
