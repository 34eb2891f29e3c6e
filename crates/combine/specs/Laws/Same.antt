-- Laws of `same`: equal lists, cell by cell. Assumes nothing.
use Rattle.std.specs.Prelude.{ℕ, ◌≡◌, refl, true, List, [], ◌∷◌, eqb, length, get_or}
use Rattle.std.proofs.Common.{sym, ap, ◌∙◌, ext_get_or, eq-eqb, eqb-true}
use Rattle.combine.specs.Below.{all_below}
use Rattle.combine.specs.Laws.Below.{all-at, all-make, bool-ext, both, left-of, right_of, not-both}
use Rattle.combine.specs.Lists.{same}

pub same_refl : (a : List ℕ) → same a a ≡ true
same_refl [] = refl
same_refl (x ∷ xs) = both (eq-eqb x x refl) (same_refl xs)

pub same_true : (a b : List ℕ) → same a b ≡ true → a ≡ b
same_true [] [] e = refl
same_true [] (y ∷ ys) e = absurd (not-both e refl)
same_true (x ∷ xs) [] e = absurd (not-both e refl)
same_true (x ∷ xs) (y ∷ ys) e =
    let p : x ≡ y = eqb-true x y (left-of (eqb x y) (same xs ys) e) in
    let q : xs ≡ ys = same_true xs ys (right_of (eqb x y) (same xs ys) e) in
    cc

pub true_same : (a b : List ℕ) → a ≡ b → same a b ≡ true
true_same a b e = ap (same a) (sym e) ∙ same_refl a

pub same-all : (a b : List ℕ) → length a ≡ length b → same a b ≡ all_below (length a) (λ k. eqb (get_or a k 0) (get_or b k 0))
same-all a b l =
    bool-ext (same a b)
    (all_below (length a) (λ k. eqb (get_or a k 0) (get_or b k 0)))
    (λ e. all-make _ (length a) (λ k _. eq-eqb (get_or a k 0) (get_or b k 0) (ap (λ (x : List ℕ). get_or x k 0) (same_true a b e))))
    (λ e. true_same a b (ext_get_or 0 a b l (λ k h. eqb-true (get_or a k 0) (get_or b k 0) (all-at _ (length a) e k h))))
