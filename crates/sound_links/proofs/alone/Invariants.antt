-- `sound_links::alone` meets its contract: all entries before `other` passed the test. Assumes nothing.
use mathlib.Core.Path.{◌≡◌}
use mathlib.Core.Bool.{true}
use Rattle.combine.specs.Below.{all_below}
use Rattle.sound_links.specs.Linked.{elsewhereb}
use Rattle.sound_links.proofs.alone.Given as goal

abbrev pub invariant-loop-other : goal.invariant-loop-other
invariant-loop-other l = all_below l.other (elsewhereb l.tables l.entry l.place) ≡ true
