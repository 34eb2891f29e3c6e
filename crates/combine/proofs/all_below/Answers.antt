-- `combine::all_below` meets its contract: `beyond` is zero where all cells before this one pass the test, and fits
-- by their number. Assumes nothing.
use Prim.Native.Nat.{ℕ}
use mathlib.Core.Path.{◌≡◌, sym}
use mathlib.Core.Bool.{Bool, not}
use native.Mathlib.Omega.{arith}
use Rattle.std.proofs.lemmas.Bool.Decides.{nat_tests}
use lib.ListN.{get_or}
use lib.Dec.{leb, ltb}
use Rattle.combine.specs.Laws.Any.{byte-few}
use Rattle.combine.specs.Laws.Below.{all-zero}
use Rattle.combine.proofs.Hits.{hits-turn}
use Rattle.combine.proofs.all_below.Goals as goal

below : (cell bound : ℕ) → not (leb bound cell) ≡ ltb cell bound
below cell bound = grind (arith, nat_tests)

pub loop-cell-init : goal.loop-cell-init
loop-cell-init c = (omega arith, sym (all-zero _))

pub overflow_add-beyond : goal.overflow_add-beyond
overflow_add-beyond c = omega (arith, byte-few)

pub loop-cell-preserved : goal.loop-cell-preserved
loop-cell-preserved c =
    let l = c.loop-cell in
    let cell : ℕ → ℕ = λ k. get_or c.args.cells.now k 0 in
    let hit : ℕ → Bool = λ k. leb c.args.bound (cell k) in
    (omega (arith, byte-few), hits-turn hit (λ k. ltb (cell k) c.args.bound) l.cell-index l.beyond (below _ _) l.invariant.1)
