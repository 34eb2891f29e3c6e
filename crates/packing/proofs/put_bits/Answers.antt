-- `packing::put_bits` meets its contract: the old element goes out of its place, and the new one in. Assumes nothing.
use Prim.Native.Nat.{ℕ, ◌<◌, ◌^◌}
use mathlib.Core.Path.{subst, sym}
use Rattle.packing.specs.Laws.Fields.{bits-put-lt}
use Rattle.packing.proofs.Shifts.{put-code}
use Rattle.packing.proofs.put_bits.Goals as goal

pub overflow_sub-result : goal.overflow_sub-result
overflow_sub-result c = (put-code c.args.width c.args.at c.args.cell c.args.x _ _ c.requires.1 c.take_bits.ensures c.take_bits-2.ensures).0

pub returns : goal.returns
returns c = (put-code c.args.width c.args.at c.args.cell c.args.x _ _ c.requires.1 c.take_bits.ensures c.take_bits-2.ensures).1

pub overflow_add-result : goal.overflow_add-result
overflow_add-result c = record { fits = subst (λ (y : ℕ). y < 2 ^ 32) (sym (put-code c.args.width c.args.at c.args.cell c.args.x _ _ c.requires.1 c.take_bits.ensures c.take_bits-2.ensures).1) (bits-put-lt c.args.width c.args.at c.args.cell c.args.x c.requires.1 c.ranges.cell.fits) }
