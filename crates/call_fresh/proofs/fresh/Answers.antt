-- `call_fresh::fresh` meets its contract. Assumes nothing.
use native.Mathlib.Omega.{arith}
use Rattle.call_fresh.proofs.Laws.{started}
use Rattle.call_fresh.proofs.fresh.Goals as goal

pub returns : goal.returns
returns c = started _ _ (omega arith) (omega arith) _ _ c.fill_cells.ensures c.segments_in.ensures
