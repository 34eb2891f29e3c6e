-- Rows of cells that are written part by part. Assumes nothing.
use Prim.Native.Nat.{ℕ, ◌+◌, ◌≤◌}
use mathlib.Core.Path.{◌≡◌, refl, sym, ap, ◌∙◌}
use mathlib.Core.List.{List, [], ◌∷◌, ◌++◌, append-nil, append_assoc}
use native.Mathlib.Nat.{not-suc-le-zero}
use native.Mathlib.Omega.{arith}
use lib.ListN.{length, drop, set, length-append, length-drop, drop_of_length-le}
use lib.Seq.{take_at, drop_at}
use borrow.Rule.Slice.PartMut.{put_mid}

-- a row's first cell is written
pub first-set : (row : List ℕ) (v : ℕ) → 1 ≤ length row → set row 0 v ≡ (v ∷ []) ++ drop 1 row
first-set [] v l = absurd (not-suc-le-zero l)
first-set (x ∷ row) v l = refl

-- the part after what is written already
put_next : (p rest ys : List ℕ) (a k : ℕ) → length p ≡ a → put_mid a k (p ++ rest) ys ≡ (p ++ ys) ++ drop k rest
put_next p rest ys a k e =
    (λ j. take_at p rest a e j ++ (ys ++ drop k (drop_at p rest a e j))) ∙ sym (append_assoc p ys (drop k rest))

-- a row is written in four parts
module _ (row p q r s : List ℕ) (a b c d : ℕ) (la : length p ≡ a) (lb : length q ≡ b) (lc : length r ≡ c) (long : length row ≡ a + b + c + d) where
  two : put_mid a b (p ++ drop a row) q ≡ (p ++ q) ++ drop b (drop a row)
  two = put_next p (drop a row) q a b la

  three : put_mid (a + b) c (put_mid a b (p ++ drop a row) q) r ≡ ((p ++ q) ++ r) ++ drop c (drop b (drop a row))
  three =
      ap (λ (l : List ℕ). put_mid (a + b) c l r) two
      ∙ put_next (p ++ q) (drop b (drop a row)) r (a + b) c (omega (arith, length-append p q))

  none_left : drop d (drop c (drop b (drop a row))) ≡ []
  none_left =
      let x = drop c (drop b (drop a row)) in
      drop_of_length-le x {i = d} (omega (arith, length-drop c (drop b (drop a row)), length-drop b (drop a row), length-drop a row))

  all-four : put_mid (a + b + c) d (put_mid (a + b) c (put_mid a b (p ++ drop a row) q) r) s ≡ p ++ (q ++ (r ++ s))
  all-four =
      ap (λ (l : List ℕ). put_mid (a + b + c) d l s) three
      ∙ put_next ((p ++ q) ++ r) (drop c (drop b (drop a row))) s (a + b + c) d (omega (arith, length-append (p ++ q) r, length-append p q))
      ∙ ap (λ (l : List ℕ). (((p ++ q) ++ r) ++ s) ++ l) none_left
      ∙ append-nil (((p ++ q) ++ r) ++ s)
      ∙ append_assoc (p ++ q) r s
      ∙ append_assoc p q (r ++ s)

  pub four-parts : {p' q' r' s' : List ℕ} → p' ≡ p → q' ≡ q → r' ≡ r → s' ≡ s → put_mid (a + b + c) d (put_mid (a + b) c (put_mid a b (p' ++ drop a row) q') r') s' ≡ p ++ (q ++ (r ++ s))
  four-parts ep eq er es =
      (λ j. put_mid (a + b + c) d (put_mid (a + b) c (put_mid a b (ep j ++ drop a row) (eq j)) (er j)) (es j)) ∙ all-four
