-- An array of what a function makes of each element of another list. Assumes nothing.
use Prim.Native.Nat.{ℕ, zero, suc, ◌+◌, ◌≤◌, ◌<◌}
use mathlib.Core.Logic.{⊎_elim}
use mathlib.Core.Path.{◌≡◌, sym, subst, ◌∙◌}
use mathlib.Core.List.{List, map}
use native.Mathlib.Nat.{eq-or-lt_of_le}
use native.Mathlib.Omega.{arith}
use denote.Param.Members.{Mut}
use lib.ListN.{length, get_or, length-map, get_or-map}
use Rattle.std.specs.Array.{IsFromFnResult, IsFromFnResultFrom}
use Rattle.std.specs.Fn.{Called}
use Rattle.std.proofs.lemmas.List.{ext_get_or}

pub mapped : {A B : Type 0} (h : A → B) (xs : List A) (ys : List B) (a : A) → length ys ≡ length xs → ((i : ℕ) → i < length xs → get_or ys i (h a) ≡ h (get_or xs i a)) → ys ≡ map h xs
mapped h xs ys a long each =
    ext_get_or (h a) ys (map h xs) (long ∙ sym (length-map xs h)) (λ i l. each i (omega arith) ∙ sym (get_or-map h xs i a))

-- `from_fn` with a closure that changes nothing and answers `made i` at i
module _ {F B : Type 0} (g : Mut F (ℕ × Unit {0}) B) (f : F) (made : ℕ → B) (alike : (i : ℕ) (y : B) (q : F) → Called g f (i, tt) y q → (q ≡ f) × (y ≡ made i)) where
  made-from : (ys : List B) (i n : ℕ) → IsFromFnResultFrom g f ys i n → (k : ℕ) (e : B) → i ≤ k → k < i + n → get_or ys k e ≡ made k
  made-from ys i zero m k e l h = absurd (omega arith)
  made-from ys i (suc n) m k e l h =
      let a = alike i m.1 m.0 m.3 in
      ⊎_elim
      (λ (d : i ≡ k). subst (λ (j : ℕ). get_or ys j e ≡ made j) d (m.2.1 e ∙ a.1))
      (λ (s : i < k). made-from ys (i + 1) n (subst (λ (p : F). IsFromFnResultFrom g p ys (i + 1) n) a.0 m.4) k e (omega arith) (omega arith))
      (eq-or-lt_of_le l)

pub from-row : {F A B : Type 0} {g : Mut F (ℕ × Unit {0}) B} {f : F} (h : A → B) (row : List A) (ys : List B) (a : A) (n : ℕ) → IsFromFnResult g f ys n → length row ≡ n
    → ((i : ℕ) (y : B) (q : F) → Called g f (i, tt) y q → (q ≡ f) × (y ≡ h (get_or row i a))) → ys ≡ map h row
from-row {g} {f} h row ys a n r long alike =
    mapped h row ys a (r.long ∙ sym long) (λ i l. made-from g f (λ j. h (get_or row j a)) alike ys 0 n r.each i (h a) (omega arith) (omega arith))
