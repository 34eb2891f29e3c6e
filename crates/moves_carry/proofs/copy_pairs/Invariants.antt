-- `moves_carry::copy_pairs` meets its contract: what is to come of the plan makes of the store what the plan does. Assumes nothing.

use mathlib.Core.Path.{◌≡◌}
use lib.ListN.{length}
use Rattle.segments.specs.Moves.{moved_cells}
use Rattle.moves_carry.proofs.Turns.{InStore}
use Rattle.moves_carry.proofs.copy_pairs.Given as goal

abbrev pub invariant-loop-pair : goal.invariant-loop-pair
invariant-loop-pair l = (l.pair-iterator.size ≡ 2)
    × InStore (length l.store) l.pair-iterator.rest.now
    × (moved_cells l.store l.pair-iterator.rest.now ≡ moved_cells l.initial.store l.plan)
