-- A turn of a loop that counts hits: the count tells whether there was none. Assumes nothing.
use Prim.Native.Nat.{ℕ, suc, ◌+◌}
use mathlib.Core.Path.{◌≡◌, sym, ap, ◌∙◌}
use mathlib.Core.Bool.{Bool, true, false, not, ◌&&◌, and-true, and-false, not-not}
use mathlib.Core.List.{List}
use native.Mathlib.Omega.{arith}
use mir.Val.{bool_byte}
use lib.Dec.{eqb, eqb-suc-zero}
use lib.ListN.{length, get_or}
use Rattle.combine.specs.Below.{all_below}
use Rattle.combine.specs.Laws.Below.{all-suc}
use Rattle.combine.specs.Lists.{is_in}
use Rattle.combine.specs.Laws.Any.{not-in}

add-byte : (n : ℕ) (b : Bool) → eqb (n + bool_byte b) 0 ≡ (eqb n 0 && not b)
add-byte n true =
    let e : n + 1 ≡ suc n = omega arith in
    let l : eqb (suc n) 0 ≡ false = eqb-suc-zero n in
    ap (λ (m : ℕ). eqb m 0) e ∙ l ∙ sym (and-false (eqb n 0))
add-byte n false =
    let e : n + 0 ≡ n = omega arith in
    ap (λ (m : ℕ). eqb m 0) e ∙ sym (and-true (eqb n 0))

-- where the test f hits, the test g fails
pub hits-turn : (f g : ℕ → Bool) (k times : ℕ) → not (f k) ≡ g k → eqb times 0 ≡ all_below k g → eqb (times + bool_byte (f k)) 0 ≡ all_below (k + 1) g
hits-turn f g k times e h =
    add-byte times (f k) ∙ (λ j. h j && e j) ∙ sym (all-suc g k)

pub hits-done : (row : List ℕ) (number k times : ℕ) → k ≡ length row → eqb times 0 ≡ all_below k (λ j. not (eqb number (get_or row j 0))) → not (eqb times 0) ≡ is_in number row
hits-done row number k times e h = ap not (rw e at h ∙ sym (not-in number row)) ∙ not-not (is_in number row)
