-- `placing::Segment::cell` meets its contract. Assumes nothing.
use Prim.Native.Nat.{◌+◌, ◌*◌, ◌/◌}
use Rattle.placing.specs.Placing.{cell_of}
use Rattle.placing.proofs.Segment.cell.Goals as goal

pub returns : goal.returns
unfolding cell_of
returns c = λ i. record { 0 = c.args.self.0 * 64 + c.bits_before-before.ensures.0 i / 32 }
