-- `sound_lists::mark_openings` meets its contract: the openings before `entry` are marked. Assumes nothing.
use Prim.Native.Nat.{◌+◌, ◌*◌}
use Rattle.placing.specs.Sizes.{most_held, places}
use Rattle.sound_lists.specs.Passed.{Passes}
use Rattle.sound_lists.proofs.mark_openings.Given as goal

abbrev pub invariant-loop-entry : goal.invariant-loop-entry
invariant-loop-entry l = Passes l.tables places (places + l.entry) l.initial.marks l.marks l.set (l.entry * most_held)
