use Prim.Native.Nat.{◌-◌}
use mathlib.Core.Path.{◌≡◌}
use mathlib.Core.List.{◌++◌}
use lib.ListN.{length, take, drop, replicate}
use Rattle.placing.specs.Placing.{segment}
use Rattle.opening_steps.proofs.from_second.Given as goal

abbrev pub invariant-loop-slot : goal.invariant-loop-slot
invariant-loop-slot l = (length l.rest ≡ 32) × (l.rest ≡ take l.slot (drop 1 l.list) ++ replicate (32 - l.slot) (segment 0))
