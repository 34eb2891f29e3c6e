-- `moves_pairs::pairs` meets its contract: each hand has passed so many of its kind as there are pairs. Assumes nothing.
use Prim.Native.Nat.{◌*◌}
use mathlib.Core.Path.{◌≡◌}
use lib.Seq.{paste}
use Rattle.combine.specs.Below.{count_below, picked}
use Rattle.combine.specs.Lists.{paired}
use Rattle.moves_pairs.specs.Kinds.{is_kind}
use Rattle.moves_pairs.proofs.pairs.Given as goal

abbrev pub invariant-loop-pair : goal.invariant-loop-pair
invariant-loop-pair l = (count_below l.from (is_kind l.kinds 1) ≡ l.pair) × (count_below l.to (is_kind l.kinds 2) ≡ l.pair)
    × (l.room ≡ paste l.initial.room 0 (paired (picked l.segments (is_kind l.kinds 1)) (picked l.segments (is_kind l.kinds 2))) (2 * l.pair))
