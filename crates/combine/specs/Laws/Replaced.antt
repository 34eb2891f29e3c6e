-- Lists of which one element is replaced, or put at the end. Assumes nothing.
use Rattle.std.specs.Prelude.{ℕ, zero, suc, ◌+◌, ◌≤◌, ◌<◌, ◌≡◌, refl, ◌≢◌, Bool, true, false, cond, List, [], ◌∷◌, map, T, length, get_or, set, replicate}
use Rattle.std.proofs.Common.{arith, ap, ◌∙◌, length-set, length-append, get_or-set_same, get_or-set_other}
use Rattle.std.proofs.Math.Decide.{ℕ_discrete}
use Rattle.std.proofs.Math.Option.{Option, none, some}
use Rattle.std.proofs.lemmas.List.{set-get_or}
use Rattle.combine.specs.Lists.{put, first_where}
use Rattle.combine.specs.Laws.Put.{put-within, put-at-end}

module _ {A : Type 0} where
  -- what is stored, or what was there
  pub either : (P : A → Type 0) (l : List A) (i a : ℕ) (y d : A) → P y → P (get_or l a d) → P (get_or (set l i y) a d)
  either P [] i a y d h k = k
  either P (x ∷ xs) zero zero y d h k = h
  either P (x ∷ xs) zero (suc a) y d h k = k
  either P (x ∷ xs) (suc i) zero y d h k = k
  either P (x ∷ xs) (suc i) (suc a) y d h k = either P xs i a y d h k

  -- what stands at each place after one is set
  pub at_set : (P : ℕ → A → Type 0) (l : List A) (i : ℕ) (y d : A) → i < length l → P i y → ((j : ℕ) → j ≢ i → P j (get_or l j d))
      → (j : ℕ) → P j (get_or (set l i y) j d)
  at_set P l i y d h p q j = go (ℕ_discrete j i)
    where
      go : Dec (j ≡ i) → P j (get_or (set l i y) j d)
      go (yes e) = rw e (rw (get_or-set_same l i y d h) p)
      go (no n) = rw (get_or-set_other l i j y d n) (q j n)

  pub replicate-at : (n k : ℕ) (d : A) → get_or (replicate n d) k d ≡ d
  replicate-at zero k d = refl
  replicate-at (suc n) zero d = refl
  replicate-at (suc n) (suc k) d = replicate-at n k d

  -- ---- put

  pub length-put-in : (l : List A) (k : ℕ) (a : A) → k < length l → length (put l k a) ≡ length l
  length-put-in l k a h = ap length (put-within l k a h) ∙ length-set l k a

  pub length-put-end : (l : List A) (k : ℕ) (a : A) → length l ≤ k → length (put l k a) ≡ length l + 1
  length-put-end l k a h = ap length (put-at-end l k a h) ∙ length-append l (a ∷ [])

  pub put_same : (l : List A) (k : ℕ) (d : A) → k < length l → put l k (get_or l k d) ≡ l
  put_same l k d h = put-within l k (get_or l k d) h ∙ set-get_or l k d

  -- ---- the first element that passes a test, and places that have something

  pub first-where : (f : A → Bool) (l : List A) (d : A) → first_where f l < length l → T (f (get_or l (first_where f l) d))
  first-where f [] d h = absurd (omega arith)
  first-where f (x ∷ xs) d h = go (f x) refl h (first-where f xs d)
    where
      go : (b : Bool) → f x ≡ b → cond b 0 (suc (first_where f xs)) < suc (length xs) → (first_where f xs < length xs → T (f (get_or xs (first_where f xs) d)))
          → T (f (get_or (x ∷ xs) (cond b 0 (suc (first_where f xs))) d))
      go true e h ih = rw e tt
      go false e h ih = ih (omega arith)

  pub place-below : (l : List (Option A)) (p : ℕ) (r : A) → get_or l p none ≡ some r → p < length l
  place-below [] p r e = let z : ◌≡◌ {A = ℕ} 0 1 = cc in absurd (omega arith)
  place-below (x ∷ xs) zero r e = omega arith
  place-below (x ∷ xs) (suc p) r e = omega (arith, place-below xs p r e)

pub map-set : {A B : Type 0} (f : A → B) (l : List A) (i : ℕ) (x : A) → map f (set l i x) ≡ set (map f l) i (f x)
map-set f [] i x = refl
map-set f (y ∷ ys) zero x = refl
map-set {A} {B} f (y ∷ ys) (suc i) x = ap {B = List B} (λ l. f y ∷ l) (map-set f ys i x)
