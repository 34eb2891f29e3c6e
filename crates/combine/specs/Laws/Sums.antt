-- The sum of a function over a list, and tests of some element. Assumes nothing.
use Rattle.std.specs.Prelude.{ℕ, zero, suc, ◌+◌, ◌≤◌, ◌<◌, ◌≡◌, refl, ◌≢◌, Bool, not, List, [], ◌∷◌, T, length, get_or, set}
use Rattle.std.proofs.Common.{arith, le_of_suc-le-suc, not-suc-le-zero, ap, ap₂, T_not}
use Rattle.std.proofs.Math.Dec.{not_T}
use Rattle.combine.specs.Lists.{any, total}
use Rattle.combine.specs.Laws.Tests.{or-first, or-second, nor-first, nor-second}

module _ {A : Type 0} where
  -- an element is counted in the sum, and so are two
  pub total-at : (f : A → ℕ) (l : List A) (j : ℕ) (d : A) → f d ≡ 0 → f (get_or l j d) ≤ total f l
  total-at f [] j d e = omega arith
  total-at f (x ∷ xs) zero d e = omega arith
  total-at f (x ∷ xs) (suc j) d e = omega (arith, total-at f xs j d e)

  pub total-two : (f : A → ℕ) (l : List A) (i j : ℕ) (d : A) → f d ≡ 0 → i ≢ j → f (get_or l i d) + f (get_or l j d) ≤ total f l
  total-two f [] i j d e n = omega arith
  total-two f (x ∷ xs) zero zero d e n = absurd (n refl)
  total-two f (x ∷ xs) zero (suc j) d e n = omega (arith, total-at f xs j d e)
  total-two f (x ∷ xs) (suc i) zero d e n = omega (arith, total-at f xs i d e)
  total-two f (x ∷ xs) (suc i) (suc j) d e n = omega (arith, total-two f xs i j d e (λ w. n (ap suc w)))

  -- one element is replaced
  pub total-set : (f : A → ℕ) (l : List A) (i : ℕ) (y d : A) → i < length l → total f (set l i y) + f (get_or l i d) ≡ total f l + f y
  total-set f [] i y d h = absurd (not-suc-le-zero h)
  total-set f (x ∷ xs) zero y d h = omega arith
  total-set f (x ∷ xs) (suc i) y d h = omega (arith, total-set f xs i y d (le_of_suc-le-suc h))

  pub total-alike : (f g : A → ℕ) (l : List A) (d : A) → ((j : ℕ) → f (get_or l j d) ≡ g (get_or l j d)) → total f l ≡ total g l
  total-alike f g [] d h = refl
  total-alike f g (x ∷ xs) d h = ap₂ (λ (a b : ℕ). a + b) (h 0) (total-alike f g xs d (λ j. h (suc j)))

  -- a test that passes nowhere
  pub none-total : (p : A → Bool) (f : A → ℕ) (l : List A) → ((x : A) → T (not (p x)) → f x ≡ 0) → T (not (any p l)) → total f l ≡ 0
  none-total p f [] h t = refl
  none-total p f (x ∷ xs) h t = omega (arith, h x (nor-first (p x) (any p xs) t), none-total p f xs h (nor-second (p x) (any p xs) t))

  pub any_at : (p : A → Bool) (l : List A) (j : ℕ) (d : A) → T (not (p d)) → T (p (get_or l j d)) → T (any p l)
  any_at p [] j d n t = absurd (T_not (p d) n t)
  any_at p (x ∷ xs) zero d n t = or-first (p x) (any p xs) t
  any_at p (x ∷ xs) (suc j) d n t = or-second (p x) (any p xs) (any_at p xs j d n t)

  pub not-any : (p : A → Bool) (l : List A) (k : ℕ) (d : A) → T (not (p d)) → T (not (any p l)) → T (not (p (get_or l k d)))
  not-any p l k d n h = not_T (p (get_or l k d)) (λ s. T_not (any p l) h (any_at p l k d n s))
