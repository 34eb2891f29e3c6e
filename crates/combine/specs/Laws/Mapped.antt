-- Lists seen through a function: of which one element changes, a part, and one with an element put into it. Assumes nothing.
use Rattle.std.specs.Prelude.{ℕ, zero, suc, ◌+◌, ◌≡◌, refl, ◌≢◌, List, [], ◌∷◌, map, get_or, set, take, drop}
use Rattle.std.proofs.Common.{arith, ap, ap₂}
use Rattle.combine.specs.Lists.{put, total}

module _ {A B : Type 0} where
  pub map_frame : (f f' : A → B) (l : List A) (d : A) → ((j : ℕ) → f' (get_or l j d) ≡ f (get_or l j d)) → map f' l ≡ map f l
  map_frame f f' [] d h = refl
  map_frame f f' (x ∷ xs) d h = ap₂ {C = List B} (λ y ys. y ∷ ys) (h 0) (map_frame f f' xs d (λ j. h (suc j)))

  -- the element at i is replaced, and the others look as before
  pub map-set-frame : (f f' : A → B) (l : List A) (i : ℕ) (y d : A) (z : B) → f' y ≡ z → ((j : ℕ) → j ≢ i → f' (get_or l j d) ≡ f (get_or l j d))
      → map f' (set l i y) ≡ set (map f l) i z
  map-set-frame f f' [] i y d z e h = refl
  map-set-frame f f' (x ∷ xs) zero y d z e h = ap₂ {C = List B} (λ y ys. y ∷ ys) e (map_frame f f' xs d (λ j. h (suc j) (λ w. omega arith)))
  map-set-frame f f' (x ∷ xs) (suc i) y d z e h =
      ap₂ {C = List B} (λ y ys. y ∷ ys) (h 0 (λ w. omega arith)) (map-set-frame f f' xs i y d z e (λ j n. h (suc j) (λ w. n (omega arith))))

  pub map-put : (f : A → B) (l : List A) (i : ℕ) (y : A) → map f (put l i y) ≡ put (map f l) i (f y)
  map-put f [] i y = refl
  map-put f (x ∷ xs) zero y = refl
  map-put f (x ∷ xs) (suc i) y = ap {B = List B} (λ ys. f x ∷ ys) (map-put f xs i y)

  pub map-take : (f : A → B) (k : ℕ) (l : List A) → map f (take k l) ≡ take k (map f l)
  map-take f zero l = refl
  map-take f (suc k) [] = refl
  map-take f (suc k) (x ∷ xs) = ap {B = List B} (λ ys. f x ∷ ys) (map-take f k xs)

  pub map-drop : (f : A → B) (k : ℕ) (l : List A) → map f (drop k l) ≡ drop k (map f l)
  map-drop f zero l = refl
  map-drop f (suc k) [] = refl
  map-drop f (suc k) (x ∷ xs) = map-drop f k xs

  pub total-seen : (f : A → ℕ) (g : B → ℕ) (v : A → B) (l : List A) (d : A) → ((j : ℕ) → f (get_or l j d) ≡ g (v (get_or l j d))) → total f l ≡ total g (map v l)
  total-seen f g v [] d h = refl
  total-seen f g v (x ∷ xs) d h = ap₂ (λ (a b : ℕ). a + b) (h 0) (total-seen f g v xs d (λ j. h (suc j)))
