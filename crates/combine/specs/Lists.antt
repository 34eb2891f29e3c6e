-- Lists. Assumes nothing.
use Rattle.std.specs.Prelude.{ℕ, zero, suc, ◌+◌, Bool, true, false, ◌&&◌, ◌||◌, cond, List, [], ◌∷◌, ◌++◌, eqb, take, drop}

module _ {A : Type 0} where
  -- some element passes the test
  abbrev pub any : (A → Bool) → List A → Bool
  any f [] = false
  any f (x ∷ xs) = f x || any f xs

  -- the place of the first element that passes the test; the length, where none does
  abbrev pub first_where : (A → Bool) → List A → ℕ
  first_where f [] = 0
  first_where f (x ∷ xs) = cond (f x) 0 (suc (first_where f xs))

  -- the sum of f over a list
  abbrev pub total : (A → ℕ) → List A → ℕ
  total f [] = 0
  total f (x ∷ xs) = f x + total f xs

  -- element i replaced; at the list's end: appended
  abbrev pub put : List A → ℕ → A → List A
  put [] i a = a ∷ []
  put (x ∷ xs) zero a = a ∷ xs
  put (x ∷ xs) (suc i) a = x ∷ put xs i a

  -- the lists of a list, one after the other
  unfoldable pub joined : List (List A) → List A
  joined [] = []
  joined (l ∷ ls) = l ++ joined ls

  -- the elements of two lists, by turns, as far as both go
  abbrev pub paired : List A → List A → List A
  paired [] ys = []
  paired (x ∷ xs) [] = []
  paired (x ∷ xs) (y ∷ ys) = x ∷ y ∷ paired xs ys

  -- n elements from a on
  unfoldable pub part : List A → ℕ → ℕ → List A
  part l a n = take n (drop a l)

  -- f 0, f 1, .. f (n - 1)
  unfoldable pub tab : ℕ → (ℕ → A) → List A
  tab zero f = []
  tab (suc n) f = f 0 ∷ tab n (λ i. f (suc i))

-- the same numbers, in the same order
abbrev pub same : List ℕ → List ℕ → Bool
same [] [] = true
same [] (y ∷ ys) = false
same (x ∷ xs) [] = false
same (x ∷ xs) (y ∷ ys) = eqb x y && same xs ys

-- the number is in the list
abbrev pub is_in : ℕ → List ℕ → Bool
is_in n l = any (eqb n) l
