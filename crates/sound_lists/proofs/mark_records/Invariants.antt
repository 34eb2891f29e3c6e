-- `sound_lists::mark_records` meets its contract: the records before `place` are marked. Assumes nothing.
use Prim.Native.Nat.{◌*◌}
use Rattle.placing.specs.Sizes.{most_held}
use Rattle.sound_lists.specs.Passed.{Passes}
use Rattle.sound_lists.proofs.mark_records.Given as goal

abbrev pub invariant-loop-place : goal.invariant-loop-place
invariant-loop-place l = Passes l.tables 0 l.place l.initial.marks l.marks l.set (l.place * most_held)
