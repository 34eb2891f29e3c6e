-- `free_lowest::lowest_free` meets its contract: the search: no segment below `number` is free; the scan: no row scanned has `number`. Assumes nothing.
use Prim.Native.Nat.{◌≤◌, ◌-◌}
use mathlib.Core.Path.{◌≡◌}
use lib.ListN.{length}
use Rattle.free_lowest.proofs.Search.{NoneFree}
use Rattle.free_lowest.proofs.Scan.{Scanned}
use Rattle.free_lowest.proofs.lowest_free.Given as goal

abbrev pub invariant-loop-scanned : goal.invariant-loop-scanned
invariant-loop-scanned l = (l.number ≡ l.initial.number) × Scanned l.tables l.rows l.initial.row l.number l.scanned l.row

-- where there is no row, `row` is 0
abbrev pub invariant-search : goal.invariant-search
invariant-search l = (l.row ≤ length l.rows - 1) × NoneFree l.tables l.number

abbrev pub decreases-search : goal.decreases-search
decreases-search l = l.segments - l.number
