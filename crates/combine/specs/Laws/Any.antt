-- Tests over the elements of a list, as tests over their indices. Assumes nothing.
use Rattle.std.specs.Prelude.{ℕ, zero, suc, ◌≤◌, ◌≡◌, refl, Bool, true, false, not, ◌&&◌, ◌||◌, List, [], ◌∷◌, eqb, length, get_or}
use Rattle.std.proofs.Common.{sym, ap, ◌∙◌, arith}
use Rattle.std.proofs.Math.Bool.{and-true, and_assoc}
use mir.Val.{bool_byte}
use Rattle.combine.specs.Below.{all_below}
use Rattle.combine.specs.Lists.{any, is_in}

-- a test's answer as a number
pub byte-few : (b : Bool) → bool_byte b ≤ 1
byte-few true = omega arith
byte-few false = omega arith

pub not-or : (a b : Bool) → not (a || b) ≡ (not a && not b)
not-or true b = refl
not-or false b = refl

-- the numbers below n, taken apart at their start
pub all-front : (n : ℕ) (f : ℕ → Bool) → all_below (suc n) f ≡ (f 0 && all_below n (λ i. f (suc i)))
unfolding all_below
all-front zero f = sym (and-true (f 0))
all-front (suc n) f =
    ap (λ (b : Bool). b && f (suc n)) (all-front n f) ∙ and_assoc (f 0) (all_below n (λ i. f (suc i))) (f (suc n))

-- no element passes the test
pub none_below : {A : Type 0} (f : A → Bool) (l : List A) (z : A) → not (any f l) ≡ all_below (length l) (λ k. not (f (get_or l k z)))
unfolding all_below
none_below f [] z = refl
none_below f (x ∷ l) z =
    not-or (f x) (any f l) ∙ ap (λ (b : Bool). not (f x) && b) (none_below f l z)
    ∙ sym (all-front (length l) (λ k. not (f (get_or (x ∷ l) k z))))

-- the number is not in the list
pub not-in : (n : ℕ) (l : List ℕ) → not (is_in n l) ≡ all_below (length l) (λ k. not (eqb n (get_or l k 0)))
not-in n l = none_below (eqb n) l 0
