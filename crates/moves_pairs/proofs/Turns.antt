-- The turns of the loops that find pairs. Assumes nothing.
use Prim.Native.Nat.{ℕ, suc, ◌+◌, ◌*◌, ◌≤◌, ◌<◌}
use native.Mathlib.Omega.{arith}
use mathlib.Core.Path.{◌≡◌, sym, ap, ◌∙◌}
use mathlib.Core.Logic.{⊎_elim}
use mathlib.Core.Bool.{Bool, true}
use mathlib.Core.List.{List}
use lib.ListN.{length, get_or, set}
use lib.Seq.{paste, paste-suc}
use Rattle.combine.specs.Below.{count_below, picked}
use Rattle.combine.specs.Lists.{paired}
use Rattle.combine.specs.Laws.Numbers.{le-or-lt}
use Rattle.combine.specs.Laws.Counts.{count-grows}
use Rattle.combine.specs.Laws.Pairs.{paired-from, paired-to, length-paired}
use Rattle.combine.specs.Laws.Picked.{picked-at}

-- ---- the next of a kind

pub next-below : (f : ℕ → Bool) (g n : ℕ) → count_below g f < count_below n f → g < n
next-below f g n l = ⊎_elim (λ (h : n ≤ g). absurd (let c = count-grows n g f h in let z : ⊥ = omega arith in z)) (λ h. h) (le-or-lt n g)

-- ---- pairs

paste-next : (d s : List ℕ) (j : ℕ) → j < length d → j < length s → set (paste d 0 s j) j (get_or s j 0) ≡ paste d 0 s (suc j)
paste-next d s j hd hs = ap (λ (k : ℕ). set (paste d 0 s j) k (get_or s j 0)) {x = j} {y = 0 + j} (omega arith) ∙ paste-suc d 0 s j 0 (omega arith) hs

-- the pair at place j is put
pub pair_turn : (room xs ys : List ℕ) (j x y : ℕ) → 2 * (j + 1) ≤ length room → j < length xs → length xs ≤ length ys → get_or xs j 0 ≡ x → get_or ys j 0 ≡ y
    → set (set (paste room 0 (paired xs ys) (2 * j)) (2 * j) x) (2 * j + 1) y ≡ paste room 0 (paired xs ys) (2 * (j + 1))
pair_turn room xs ys j x y fits lx le ex ey =
    let m : List ℕ = paired xs ys in
    let lm : length (paired xs ys) ≡ 2 * length xs = length-paired xs ys le in
    let a : get_or (paired xs ys) (2 * j) 0 ≡ x = paired-from xs ys j lx (omega arith) ∙ ex in
    let b : get_or (paired xs ys) (2 * j + 1) 0 ≡ y = paired-to xs ys j lx (omega arith) ∙ ey in
    (λ i. set (set (paste room 0 (paired xs ys) (2 * j)) (2 * j) (sym a i)) (2 * j + 1) (sym b i))
    ∙ ap (λ (l : List ℕ). set l (2 * j + 1) (get_or (paired xs ys) (2 * j + 1) 0)) (paste-next room (paired xs ys) (2 * j) (omega arith) (omega arith))
    ∙ ap (λ (k : ℕ). set (paste room 0 (paired xs ys) (suc (2 * j))) k (get_or (paired xs ys) k 0)) {x = 2 * j + 1} {y = suc (2 * j)} (omega arith)
    ∙ paste-next room (paired xs ys) (suc (2 * j)) (omega arith) (omega arith)
    ∙ ap (paste room 0 (paired xs ys)) {x = suc (suc (2 * j))} {y = 2 * (j + 1)} (omega arith)

-- the number of a kind that has j of the kind below it
pub at-hand : (f : ℕ → Bool) (n g j : ℕ) → g < n → f g ≡ true → count_below g f ≡ j → get_or (picked n f) j 0 ≡ g
at-hand f n g j l t e = ap (λ (k : ℕ). get_or (picked n f) k 0) (sym e) ∙ picked-at n f g l t
