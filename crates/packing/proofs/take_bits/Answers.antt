-- `packing::take_bits` meets its contract: its two shifts are the element. Assumes nothing.
use Rattle.packing.proofs.Shifts.{two-shifts}
use Rattle.packing.proofs.take_bits.Goals as goal

pub returns : goal.returns
returns c = two-shifts c.args.width c.args.at c.args.cell c.requires.1
