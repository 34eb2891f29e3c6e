-- Pieces of one length, one after the other: joined (tab n f). Assumes nothing.
use Prim.Native.Nat.{ℕ, zero, suc, ◌+◌, ◌*◌, ◌<◌}
use Rattle.std.specs.Prelude.{◌≡◌, take, drop}
use Rattle.std.proofs.Math.Path.{sym, ap}
use Rattle.std.proofs.Common.{◌∙◌, mul-zero, not-suc-le-zero, eq-or-lt_of_le, le_of_suc-le-suc, arith, drop-drop, take-add}
use Rattle.std.proofs.Math.Logic.{⊎_elim}
use mathlib.Core.List.{List, ◌++◌, append_assoc, append-nil}
use Rattle.std.proofs.Math.Nat.{mul-suc}
use Rattle.std.proofs.Math.ListN.{length, length-append}
use Rattle.std.proofs.Math.Seq.{take_at, drop_at, drop-append-add}
use Rattle.combine.specs.Lists.{joined, tab, part}

-- one piece more, at the end
pub pieces-suc : (n : ℕ) (f : ℕ → List ℕ) → joined (tab (suc n) f) ≡ joined (tab n f) ++ f n
unfolding joined tab
pieces-suc zero f = append-nil (f 0)
pieces-suc (suc n) f =
    ap (λ (x : List ℕ). f 0 ++ x) (pieces-suc n (λ i. f (suc i))) ∙ sym (append_assoc (f 0) (joined (tab n (λ i. f (suc i)))) (f (suc n)))

-- the parts of a list, one after the other, are a part
pub pieces-part : (l : List ℕ) (a m n : ℕ) → joined (tab n (λ p. part l (a + m * p) m)) ≡ part l a (m * n)
unfolding joined tab part
pieces-part l a m zero = ap (λ (k : ℕ). take k (drop a l)) (sym (mul-zero m))
pieces-part l a m (suc n) =
    pieces-suc n (λ p. part l (a + m * p) m)
    ∙ (λ j. pieces-part l a m n j ++ take m (sym (drop-drop (m * n) a l) j)) ∙ sym (take-add (m * n) m (drop a l)) ∙ ap (λ (k : ℕ). take k (drop a l)) (sym (mul-suc m n))

module _ (f : ℕ → List ℕ) (m : ℕ) (long : (p : ℕ) → length (f p) ≡ m) where
  pub pieces-length : (n : ℕ) → length (joined (tab n f)) ≡ m * n
  unfolding joined tab
  pieces-length zero = sym (mul-zero m)
  pieces-length (suc n) =
      ap length (pieces-suc n f) ∙ length-append (joined (tab n f)) (f n) ∙ omega (arith, pieces-length n, long n, mul-suc m n)

  -- a piece is a part of the whole
  pub piece-at : (h z : List ℕ) (n p : ℕ) → p < n → part (h ++ (joined (tab n f) ++ z)) (length h + m * p) m ≡ f p
  unfolding joined tab part
  piece-at h z zero p l = absurd (not-suc-le-zero l)
  piece-at h z (suc n) p l =
      ap (λ (k : List ℕ). part (h ++ k) (length h + m * p) m) (ap (λ (k : List ℕ). k ++ z) (pieces-suc n f) ∙ append_assoc (joined (tab n f)) (f n) z)
      ∙ ⊎_elim (last h z n p) (λ q. piece-at h (f n ++ z) n p q) (eq-or-lt_of_le (le_of_suc-le-suc l))
    where
      last : (h z : List ℕ) (n p : ℕ) → p ≡ n → part (h ++ (joined (tab n f) ++ (f n ++ z))) (length h + m * p) m ≡ f p
      last h z n p e =
          ap (take m)
          (drop-append-add h (joined (tab n f) ++ (f n ++ z)) (m * p)
          ∙ drop_at (joined (tab n f)) (f n ++ z) (m * p) (pieces-length n ∙ ap (λ (k : ℕ). m * k) (sym e)))
          ∙ take_at (f n) z m (long n) ∙ ap f (sym e)
