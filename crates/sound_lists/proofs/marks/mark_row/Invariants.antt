-- `sound_lists::marks::mark_row` meets its contract: the first numbers of the row are marked. Assumes nothing.
use mathlib.Core.Path.{◌≡◌}
use mathlib.Core.Bool.{true}
use lib.ListN.{get_or}
use Rattle.sound_lists.specs.Marks.{mark_those}
use Rattle.sound_lists.proofs.marks.mark_row.Given as goal

abbrev pub invariant-loop-cell : goal.invariant-loop-cell
invariant-loop-cell l = l.marks ≡ mark_those (λ j. true) (λ j. get_or l.row j 0) l.initial.marks l.cell-index
