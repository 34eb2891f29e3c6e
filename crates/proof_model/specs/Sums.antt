-- Sums over the numbers below n. Assumes nothing.
use Rattle.std.specs.Prelude.{ℕ, zero, suc, ◌+◌, ◌≤◌, ◌<◌, ◌≡◌, refl, Bool, true, false, cond, List, [], ◌∷◌, eqb}
use Rattle.std.proofs.Common.{arith, not-suc-le-zero, ap, ap₂, ◌∙◌}
use Rattle.std.proofs.Math.Decide.{ℕ_discrete}
use Rattle.combine.specs.Below.{count_below}
use Rattle.combine.specs.Lists.{total}
use Rattle.combine.specs.Laws.Tests.{eqb-ne, eqb-eq}

unfoldable pub sum_below : ℕ → (ℕ → ℕ) → ℕ
sum_below zero f = 0
sum_below (suc n) f = f n + sum_below n f

pub sum_alike : (n : ℕ) (f g : ℕ → ℕ) → ((k : ℕ) → f k ≡ g k) → sum_below n f ≡ sum_below n g
unfolding sum_below
sum_alike zero f g h = refl
sum_alike (suc n) f g h = ap₂ (λ (a b : ℕ). a + b) (h n) (sum_alike n f g h)

pub sum-zero : (n : ℕ) → sum_below n (λ k. 0) ≡ 0
unfolding sum_below
sum-zero zero = refl
sum-zero (suc n) = omega (arith, sum-zero n)

pub sum-add : (n : ℕ) (f g : ℕ → ℕ) → sum_below n (λ k. f k + g k) ≡ sum_below n f + sum_below n g
unfolding sum_below
sum-add zero f g = refl
sum-add (suc n) f g = omega (arith, sum-add n f g)

-- the order of two sums
pub sum-total : {A : Type 0} (n : ℕ) (f : ℕ → A → ℕ) (l : List A) → sum_below n (λ k. total (f k) l) ≡ total (λ x. sum_below n (λ k. f k x)) l
sum-total n f [] = sum-zero n
sum-total n f (x ∷ xs) = sum-add n (λ k. f k x) (λ k. total (f k) xs) ∙ ap (λ (k : ℕ). sum_below n (λ k. f k x) + k) (sum-total n f xs)

-- ---- of the numbers below n, x alone is counted, and that where `but` fails it

abbrev pub alone : (ℕ → Bool) → ℕ → ℕ → ℕ
alone but x k = cond (but k) 0 (cond (eqb k x) 1 0)

same-zero : (b : Bool) (k : ℕ) → cond b 0 0 + k ≡ k
same-zero true k = omega arith
same-zero false k = omega arith

pick-beyond : (n x : ℕ) (but : ℕ → Bool) → n ≤ x → sum_below n (alone but x) ≡ 0
unfolding sum_below
pick-beyond zero x but h = refl
pick-beyond (suc n) x but h = rw (eqb-ne n x (λ w. omega arith)) (same-zero (but n) _ ∙ pick-beyond n x but (omega arith))

pub pick : (n x : ℕ) (but : ℕ → Bool) → x < n → sum_below n (alone but x) ≡ cond (but x) 0 1
unfolding sum_below
pick zero x but h = absurd (not-suc-le-zero h)
pick (suc n) x but h = go (λ l. pick n x but l) (ℕ_discrete n x)
  where
    here : {k : ℕ} (b : Bool) → k ≡ 0 → cond b 0 1 + k ≡ cond b 0 1
    here b e = omega arith

    go : (x < n → sum_below n (alone but x) ≡ cond (but x) 0 1) → Dec (n ≡ x) → cond (but n) 0 (cond (eqb n x) 1 0) + sum_below n (alone but x) ≡ cond (but x) 0 1
    go before (yes e) = rw (eqb-eq n x e) (here (but n) (pick-beyond n x but (omega arith)) ∙ ap (λ (y : ℕ). cond (but y) 0 1) e)
    go before (no d) = rw (eqb-ne n x d) (same-zero (but n) _ ∙ before (omega (arith, d)))

-- ---- each number passes the test, or is counted once

pub count-and-sum : (n : ℕ) (f : ℕ → Bool) (g : ℕ → ℕ) → ((k : ℕ) → cond (f k) 1 0 + g k ≡ 1) → count_below n f + sum_below n g ≡ n
unfolding sum_below count_below
count-and-sum zero f g h = refl
count-and-sum (suc n) f g h = go (f n) (h n) (count-and-sum n f g h)
  where
    go : (b : Bool) → cond b 1 0 + g n ≡ 1 → count_below n f + sum_below n g ≡ n → cond b (count_below n f + 1) (count_below n f) + (g n + sum_below n g) ≡ suc n
    go true e w = omega arith
    go false e w = omega arith
