-- Whether all cells are zero, where the last one is. Assumes nothing.
use Rattle.std.specs.Prelude.{ℕ, ◌+◌, ◌-◌, ◌≤◌, ◌<◌, ◌≡◌, true, List, eqb, length, get_or, take}
use Rattle.std.proofs.Common.{sym, ap, ◌∙◌, ⊎_elim, arith, eq-eqb, length-take-le, get_or-take}
use Rattle.combine.specs.Below.{all_below}
use Rattle.combine.specs.Laws.Below.{all-at, all-make, bool-ext}
use Rattle.combine.specs.Laws.Numbers.{le-or-lt}

-- the first n of n cells, or of one more
pub all-by-first : (c : List ℕ) (n : ℕ) → n ≤ length c → length c ≤ n + 1 → get_or c (length c - 1) 0 ≡ 0
    → all_below (length (take n c)) (λ k. eqb (get_or (take n c) k 0) 0) ≡ all_below (length c) (λ k. eqb (get_or c k 0) 0)
all-by-first c n l m z = bool-ext _ _ (λ h. all-make _ (length c) (λ k q. ⊎_elim (last k q) (first h k) (le-or-lt n k))) (λ h. all-make _ (length (take n c)) (λ k q. within h k (omega (arith, q, long))))
  where
    long : length (take n c) ≡ n
    long = length-take-le n c l

    first : all_below (length (take n c)) (λ k. eqb (get_or (take n c) k 0) 0) ≡ true → (k : ℕ) → k < n → eqb (get_or c k 0) 0 ≡ true
    first h k q = ap (λ (x : ℕ). eqb x 0) (sym (get_or-take n c k 0 q)) ∙ all-at _ (length (take n c)) h k (omega (arith, q, long))

    last : (k : ℕ) → k < length c → n ≤ k → eqb (get_or c k 0) 0 ≡ true
    last k q r =
        let e : k ≡ length c - 1 = omega arith in
        eq-eqb (get_or c k 0) 0 (ap (λ (i : ℕ). get_or c i 0) e ∙ z)

    within : all_below (length c) (λ k. eqb (get_or c k 0) 0) ≡ true → (k : ℕ) → k < n → eqb (get_or (take n c) k 0) 0 ≡ true
    within h k q = ap (λ (x : ℕ). eqb x 0) (get_or-take n c k 0 q) ∙ all-at _ (length c) h k (omega arith)
