-- Laws of a list by index with one more element, and of a list with an element put into it. Assumes nothing.
use Prim.Native.Nat.{ℕ, zero, suc, ◌≤◌, ◌<◌}
use Rattle.std.specs.Prelude.{◌≡◌, ◌≢◌, length, get_or, set}
use Rattle.std.proofs.Math.Path.{refl, ap}
use mathlib.Core.List.{List, [], ◌∷◌, ◌++◌}
use Rattle.std.proofs.Common.{not-suc-le-zero, le_of_suc-le-suc}
use Rattle.combine.specs.Lists.{put, tab}

module _ {A : Type 0} where
  pub tab-first : (n : ℕ) (f : ℕ → A) → tab (suc n) f ≡ f 0 ∷ tab n (λ i. f (suc i))
  unfolding tab
  tab-first n f = refl

  pub tab-last : (n : ℕ) (f : ℕ → A) → tab (suc n) f ≡ tab n f ++ (f n ∷ [])
  unfolding tab
  tab-last zero f = refl
  tab-last (suc n) f = ap (λ (l : List A). f 0 ∷ l) (tab-last n (λ i. f (suc i)))

  pub put-within : (l : List A) (k : ℕ) (a : A) → k < length l → put l k a ≡ set l k a
  put-within [] k a h = absurd (not-suc-le-zero h)
  put-within (x ∷ xs) zero a h = refl
  put-within (x ∷ xs) (suc k) a h = ap (λ (l : List A). x ∷ l) (put-within xs k a (le_of_suc-le-suc h))

  pub put-at-end : (l : List A) (k : ℕ) (a : A) → length l ≤ k → put l k a ≡ l ++ (a ∷ [])
  put-at-end [] k a h = refl
  put-at-end (x ∷ xs) zero a h = absurd (not-suc-le-zero h)
  put-at-end (x ∷ xs) (suc k) a h = ap (λ (l : List A). x ∷ l) (put-at-end xs k a (le_of_suc-le-suc h))

  pub get_or-put-same : (l : List A) (k : ℕ) (a z : A) → k ≤ length l → get_or (put l k a) k z ≡ a
  get_or-put-same [] zero a z h = refl
  get_or-put-same [] (suc k) a z h = absurd (not-suc-le-zero h)
  get_or-put-same (x ∷ xs) zero a z h = refl
  get_or-put-same (x ∷ xs) (suc k) a z h = get_or-put-same xs k a z (le_of_suc-le-suc h)

  pub get_or-put-other : (l : List A) (k i : ℕ) (a z : A) → k ≤ length l → i ≢ k → get_or (put l k a) i z ≡ get_or l i z
  get_or-put-other [] zero zero a z h ne = absurd (ne refl)
  get_or-put-other [] zero (suc i) a z h ne = refl
  get_or-put-other [] (suc k) i a z h ne = absurd (not-suc-le-zero h)
  get_or-put-other (x ∷ xs) zero zero a z h ne = absurd (ne refl)
  get_or-put-other (x ∷ xs) zero (suc i) a z h ne = refl
  get_or-put-other (x ∷ xs) (suc k) zero a z h ne = refl
  get_or-put-other (x ∷ xs) (suc k) (suc i) a z h ne = get_or-put-other xs k i a z (le_of_suc-le-suc h) (λ e. ne (ap suc e))
