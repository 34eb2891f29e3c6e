-- `tables::Opening::free_pointer` meets its contract: no name before `pointer` is free. Assumes nothing.
use Prim.Native.Nat.{◌≤◌}
use mathlib.Core.Path.{◌≡◌}
use Rattle.tables.specs.Pointers.{lowest_free_pointer}
use Rattle.tables.proofs.First.{free_from}
use Rattle.tables.proofs.Opening.free_pointer.Given as goal

abbrev pub invariant-loop-pointer : goal.invariant-loop-pointer
invariant-loop-pointer l = (3 ≤ l.pointer) × (l.pointer ≤ 8) × (lowest_free_pointer l.self ≡ free_from l.self l.pointer)
