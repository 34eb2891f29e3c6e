-- `moves_pairs::next_of` meets its contract: no number of the kind was passed over. Assumes nothing.
use mathlib.Core.Path.{◌≡◌}
use Rattle.combine.specs.Below.{count_below}
use Rattle.moves_pairs.specs.Kinds.{is_kind}
use Rattle.moves_pairs.proofs.next_of.Given as goal

abbrev pub invariant-loop-number : goal.invariant-loop-number
invariant-loop-number l = count_below l.number (is_kind l.kinds l.kind) ≡ count_below l.start (is_kind l.kinds l.kind)
