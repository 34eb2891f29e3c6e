-- What holds at each index of a list, and sums over a list that are at most 1. Assumes nothing.
use Rattle.std.specs.Prelude.{ℕ, suc, ◌≤◌, ◌<◌, ◌≡◌, refl, Bool, List, [], ◌∷◌, T, length, get_or}
use Rattle.std.proofs.Common.{suc-le-suc, arith, zero-lt-suc, ⊎_elim}
use Rattle.std.proofs.Math.ListN.{get_or-eq_default}
use Rattle.combine.specs.Laws.Numbers.{le-or-lt}
use Rattle.combine.specs.Lists.{any, total, tab}
use Rattle.combine.specs.Laws.Lists.{length-tab, tab-at}
use Rattle.combine.specs.Laws.Tests.{or_split}

module _ {A : Type 0} where
  -- what holds of each element, and of what stands for one beyond the end, holds at every index
  pub tab-each : (P : A → Type 0) (n : ℕ) (f : ℕ → A) (i : ℕ) (z : A) → (i < n → P (f i)) → P z → P (get_or (tab n f) i z)
  tab-each P n f i z h k = ⊎_elim
      (λ l. let r : length (tab n f) ≤ i = omega (arith, length-tab n f) in rw (get_or-eq_default (tab n f) z r) k)
      (λ l. rw (tab-at n f i z l) (h l)) (le-or-lt n i)

  pub any_where : (f : A → Bool) (l : List A) (d : A) → T (any f l) → (i : ℕ) × T (f (get_or l i d))
  any_where f [] d t = absurd t
  any_where f (x ∷ xs) d t = or_split (f x) (any f xs) t (λ h. (0, h)) (λ h. let w = any_where f xs d h in (suc w.0, w.1))

  pub total-zero : (f : A → ℕ) (l : List A) (d : A) → ((i : ℕ) → i < length l → f (get_or l i d) ≡ 0) → total f l ≡ 0
  total-zero f [] d h = refl
  total-zero f (x ∷ xs) d h = omega (arith, h 0 (zero-lt-suc _), total-zero f xs d (λ i r. h (suc i) (suc-le-suc r)))

  -- each element counts at most 1, and no two count
  pub total-one : (f : A → ℕ) (l : List A) (d : A) → ((i : ℕ) → i < length l → f (get_or l i d) ≤ 1)
      → ((i j : ℕ) → i < length l → j < length l → 1 ≤ f (get_or l i d) → 1 ≤ f (get_or l j d) → i ≡ j) → total f l ≤ 1
  total-one f [] d h n = omega arith
  total-one f (x ∷ xs) d h n = ⊎_elim
      (λ e.
      let others = total-one f xs d (λ i r. h (suc i) (suc-le-suc r)) (λ i j r s p q. let e = n (suc i) (suc j) (suc-le-suc r) (suc-le-suc s) p q in omega arith) in
      omega arith)
      (λ p. omega (arith, h 0 (zero-lt-suc _), total-zero f xs d (λ i r. none-else p i r)))
      (le-or-lt (f x) 0)
    where
      none-else : 0 < f x → (i : ℕ) → i < length xs → f (get_or xs i d) ≡ 0
      none-else p i r =
          ⊎_elim (λ e. omega arith) (λ q. absurd (let e = n 0 (suc i) (zero-lt-suc _) (suc-le-suc r) p q in let y : ⊥ = omega arith in y)) (le-or-lt (f (get_or xs i d)) 0)
