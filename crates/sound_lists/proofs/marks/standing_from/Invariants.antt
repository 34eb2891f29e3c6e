-- `sound_lists::marks::standing_from` meets its contract: `count` is the count of the first marks of the part. Assumes nothing.
use Prim.Native.Nat.{◌+◌, ◌≤◌}
use mathlib.Core.Path.{◌≡◌}
use Rattle.combine.specs.Below.{count_below}
use Rattle.sound_lists.specs.Marks.{is_marked}
use Rattle.sound_lists.proofs.marks.standing_from.Given as goal

abbrev pub invariant-loop-place : goal.invariant-loop-place
invariant-loop-place l = (l.count ≤ l.place) × (l.count ≡ count_below l.place (λ j. is_marked l.marks (l.start + j)))
