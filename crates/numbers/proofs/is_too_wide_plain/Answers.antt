-- `numbers::is_too_wide_plain` meets its contract. Assumes nothing.
use mathlib.Core.Path.{ap}
use Prim.Native.Nat.{ℕ}
use lib.Dec.{leb}
use Rattle.numbers.proofs.Laws.{width-most, limit_is}
use Rattle.numbers.proofs.is_too_wide_plain.Goals as goal

pub overflow_shl-limit : goal.overflow_shl-limit
overflow_shl-limit c = width-most c.args.species c.width.result c.requires c.width.ensures

pub returns : goal.returns
returns c = rw c.from.ensures (ap (λ (l : ℕ). leb l c.args.number) (limit_is c.args.species c.width.result c.requires c.width.ensures))
