-- `Direction::call_at` meets its contract. Assumes nothing.
use Rattle.call_next_prev.proofs.Calls.{calls}
use Rattle.call_next_prev.proofs.Direction.call_at.Goals as goal

pub load_opening-opening-requires : goal.load_opening-opening-requires
load_opening-opening-requires c = search calls

pub read-reading-requires : goal.read-reading-requires
read-reading-requires c = search calls

pub deliver-requires : goal.deliver-requires
deliver-requires c = search calls

pub returns : goal.returns
returns c = search calls
