-- `sound_lists::marks::standing` meets its contract: `count` is the count of the first parts. Assumes nothing.
use Prim.Native.Nat.{◌*◌, ◌≤◌}
use mathlib.Core.Path.{◌≡◌}
use Rattle.combine.specs.Below.{count_below}
use Rattle.sound_lists.specs.Marks.{is_marked, part_length}
use Rattle.sound_lists.proofs.marks.standing.Given as goal

abbrev pub invariant-loop-part : goal.invariant-loop-part
invariant-loop-part l = (l.count ≤ part_length * l.part) × (l.count ≡ count_below (part_length * l.part) (is_marked l.marks))
