-- Laws of combine/specs/First.antt. Assumes nothing.
use Prim.Native.Nat.{ℕ, zero, suc, ◌+◌, ◌<◌}
use Rattle.std.specs.Prelude.{◌≡◌, Bool, true, false}
use Rattle.std.proofs.Math.Path.{refl, subst}
use Rattle.std.proofs.Math.Logic.{⊎_elim}
use Rattle.std.proofs.Common.{arith, le_of_suc-le-suc, not-suc-le-zero, eq-or-lt_of_le, lt-ltb, le-ltb}
use Rattle.std.proofs.Math.Numerals.{add-one}
use Rattle.combine.specs.First.{first_below}

module _ (f : ℕ → Bool) where
  pub first-zero : first_below 0 f ≡ 0
  unfolding first_below
  first-zero = refl

  pub first_more : (k : ℕ) → first_below k f ≡ k → f k ≡ false → first_below (k + 1) f ≡ k + 1
  unfolding first_below
  first_more k e h = rw add-one (simp (le-ltb (first_below k f) k (omega arith), h))

  first_next : (k : ℕ) → first_below k f ≡ k → f k ≡ true → first_below (suc k) f ≡ k
  unfolding first_below
  first_next k e h = simp (le-ltb (first_below k f) k (omega arith), h)

  pub first-at : (n k : ℕ) → first_below k f ≡ k → f k ≡ true → k < n → first_below n f ≡ k
  unfolding first_below
  first-at zero k e h l = absurd (not-suc-le-zero l)
  first-at (suc n) k e h l =
      ⊎_elim (λ (q : k ≡ n). subst (λ (m : ℕ). first_below (suc m) f ≡ k) q (first_next k e h))
      (λ (m : k < n). let r : first_below n f ≡ k = first-at n k e h m in simp (lt-ltb (first_below n f) n (omega arith)) r)
      (eq-or-lt_of_le (le_of_suc-le-suc l))
