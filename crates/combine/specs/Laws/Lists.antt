-- Laws of combine/specs/Lists.antt. Assumes nothing.
use Prim.Native.Nat.{ℕ, zero, suc, ◌<◌, zero-le, suc-le-suc}
use Rattle.std.specs.Prelude.{◌≡◌, ◌≢◌, length, get_or, set}
use Rattle.std.proofs.Math.Path.{refl, ap}
use Rattle.std.proofs.Common.{not-suc-le-zero, le_of_suc-le-suc, arith}
use Rattle.combine.specs.Lists.{tab}

module _ {A : Type 0} where
  pub length-tab : (n : ℕ) (f : ℕ → A) → length (tab n f) ≡ n
  unfolding tab
  length-tab zero f = refl
  length-tab (suc n) f = ap suc (length-tab n (λ i. f (suc i)))

  pub tab-at : (n : ℕ) (f : ℕ → A) (i : ℕ) (z : A) → i < n → get_or (tab n f) i z ≡ f i
  unfolding tab
  tab-at zero f i z l = absurd (not-suc-le-zero l)
  tab-at (suc n) f zero z l = refl
  tab-at (suc n) f (suc i) z l = tab-at n (λ i. f (suc i)) i z (le_of_suc-le-suc l)

  pub tab-cong : (n : ℕ) (f g : ℕ → A) → ((k : ℕ) → k < n → g k ≡ f k) → tab n g ≡ tab n f
  unfolding tab
  tab-cong zero f g h = refl
  tab-cong (suc n) f g h = rw (h 0 (suc-le-suc zero-le), tab-cong n (λ i. f (suc i)) (λ i. g (suc i)) (λ k l. h (suc k) (suc-le-suc l)))

  -- one element of a list by index is replaced
  pub tab-set : (n : ℕ) (f g : ℕ → A) (p : ℕ) (a : A) → p < n → g p ≡ a → ((k : ℕ) → k < n → k ≢ p → g k ≡ f k) → tab n g ≡ set (tab n f) p a
  unfolding tab
  tab-set zero f g p a l e h = absurd (not-suc-le-zero l)
  tab-set (suc n) f g zero a l e h =
      rw (e, tab-cong n (λ i. f (suc i)) (λ i. g (suc i)) (λ k r. h (suc k) (suc-le-suc r) (λ q. omega arith)))
  tab-set (suc n) f g (suc p) a l e h =
      rw (h 0 (suc-le-suc zero-le) (λ q. omega arith), tab-set n (λ i. f (suc i)) (λ i. g (suc i)) p a (le_of_suc-le-suc l) e (λ k r d. h (suc k) (suc-le-suc r) (λ q. d (omega arith))))
