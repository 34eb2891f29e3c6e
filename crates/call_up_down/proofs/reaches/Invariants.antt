-- `call_up_down::reaches` meets its contract: all records before `p` passed the test. Assumes nothing.
use mathlib.Core.Path.{◌≡◌}
use mathlib.Core.Bool.{true}
use Rattle.combine.specs.Below.{all_below}
use Rattle.call_up_down.proofs.Reach.{within}
use Rattle.call_up_down.proofs.reaches.Given as goal

abbrev pub invariant-loop-p : goal.invariant-loop-p
invariant-loop-p l = all_below l.p (within l.tables l.greatest) ≡ true
