-- `call_open::open_read` meets its contract. Assumes nothing.
use Rattle.call_open.specs.Ways.{way_of}
use Rattle.call_open.proofs.open_read.Goals as goal

pub returns : goal.returns
unfolding way_of
returns c = c.open_old.ensures
