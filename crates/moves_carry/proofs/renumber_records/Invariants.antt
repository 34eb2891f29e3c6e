-- `moves_carry::renumber_records` meets its contract. Assumes nothing.
use mathlib.Core.Path.{◌≡◌}
use Rattle.moves_carry.specs.Numbers.{mapped}
use Rattle.cells.specs.Moved.{renumbered_first}
use Rattle.moves_carry.proofs.renumber_records.Given as goal

abbrev pub invariant-loop-place : goal.invariant-loop-place
invariant-loop-place l = (l.tables ≡ renumbered_first (mapped l.numbers) l.place l.initial.tables)
