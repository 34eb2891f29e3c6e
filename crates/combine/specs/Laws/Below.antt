-- Laws of combine/specs/Below.antt. Assumes nothing.
use Rattle.std.specs.Prelude.{◌≡◌, ◌⊎◌, Bool, not, ◌&&◌, ◌||◌}
use Rattle.std.proofs.Math.Path.{refl, sym, ap}
use Rattle.std.proofs.Common.{◌∙◌, inl, inr, not-suc-le-zero, eq-or-lt_of_le, le_of_suc-le-suc, le_antisymm}
use Rattle.std.proofs.Math.Logic.{⊎_elim}
use Rattle.std.proofs.Math.Bool.{true, false, cond, and-false}
use Prim.Native.Nat.{ℕ, zero, suc, ◌+◌, ◌≤◌, ◌<◌}
use Rattle.std.proofs.Math.Numerals.{add-one}
use native.Mathlib.Omega.{arith}
use Rattle.combine.specs.Below.{all_below, count_below}

-- ---- truth values
pub not-both : {b : Bool} → b ≡ true → b ≡ false → ⊥
not-both p q = let z : true ≡ false = cc in let w : ◌≡◌ {A = ℕ} 0 1 = cc in omega arith

pub both : {a b : Bool} → a ≡ true → b ≡ true → (a && b) ≡ true
both p q = rw (p, q)

pub bad-left : (a b : Bool) → a ≡ false → (a && b) ≡ false
bad-left a b p = rw p

pub bad-right : (a b : Bool) → b ≡ false → (a && b) ≡ false
bad-right a b p = rw p (and-false a)

pub left-of : (a b : Bool) → (a && b) ≡ true → a ≡ true
left-of true b p = refl
left-of false b p = p

pub right_of : (a b : Bool) → (a && b) ≡ true → b ≡ true
right_of true b p = p
right_of false b p = absurd (not-both p refl)

pub or_left : (a b : Bool) → a ≡ true → (a || b) ≡ true
or_left a b p = rw p

pub or_right : (a b : Bool) → b ≡ true → (a || b) ≡ true
or_right true b p = refl
or_right false b p = p

pub split-bool : (b : Bool) → (b ≡ true) ⊎ (b ≡ false)
split-bool true = inl refl
split-bool false = inr refl

-- two tests that hold of the same things are equal
pub bool-ext : (a b : Bool) → (a ≡ true → b ≡ true) → (b ≡ true → a ≡ true) → a ≡ b
bool-ext true b f g = sym (f refl)
bool-ext false true f g = g refl
bool-ext false false f g = refl

module _ (f : ℕ → Bool) where
  -- ---- all_below
  pub all-zero : all_below 0 f ≡ true
  unfolding all_below
  all-zero = refl

  pub all-suc : (n : ℕ) → all_below (n + 1) f ≡ (all_below n f && f n)
  unfolding all_below
  all-suc n = rw add-one

  pub all_more : (n : ℕ) → all_below n f ≡ true → f n ≡ true → all_below (n + 1) f ≡ true
  all_more n p q = all-suc n ∙ both p q

  pub all-at : (n : ℕ) → all_below n f ≡ true → (k : ℕ) → k < n → f k ≡ true
  unfolding all_below
  all-at zero p k l = absurd (not-suc-le-zero l)
  all-at (suc n) p k l =
      ⊎_elim (λ e. ap f e ∙ right_of (all_below n f) (f n) p) (λ m. all-at n (left-of (all_below n f) (f n) p) k m) (eq-or-lt_of_le (le_of_suc-le-suc l))

  pub all-make : (n : ℕ) → ((k : ℕ) → k < n → f k ≡ true) → all_below n f ≡ true
  unfolding all_below
  all-make zero h = refl
  all-make (suc n) h = both (all-make n (λ k l. h k (omega arith))) (h n (omega arith))

  pub all-bad : (n k : ℕ) → k < n → f k ≡ false → all_below n f ≡ false
  all-bad n k l e =
      ⊎_elim (λ t. absurd (not-both (all-at n t k l) e)) (λ x. x) (split-bool (all_below n f))

  pub all-witness : (n : ℕ) → all_below n f ≡ false → (k : ℕ) × (k < n) × (f k ≡ false)
  unfolding all_below
  all-witness zero p = absurd (not-both refl p)
  all-witness (suc n) p =
      ⊎_elim
      (λ t. (n, omega arith, let q : (all_below n f && f n) ≡ f n = rw t in sym q ∙ p))
      (λ e. let w = all-witness n e in (w.0, omega (arith, w.1), w.2))
      (split-bool (all_below n f))

  -- a loop `while i < n { if !f(i) { return false; } i += 1; } true` with the invariant (i ≤ n) × (all_below i f ≡ true)
  pub loop-true : (n i : ℕ) → i ≤ n → n ≤ i → all_below i f ≡ true → true ≡ all_below n f
  loop-true n i l m p = sym (ap (λ (k : ℕ). all_below k f) (le_antisymm m l) ∙ p)

  pub loop-false : (n i : ℕ) → i < n → f i ≡ false → false ≡ all_below n f
  loop-false n i l e = sym (all-bad n i l e)

  -- ---- count_below
  pub count-hit : (n : ℕ) → f n ≡ true → count_below (n + 1) f ≡ count_below n f + 1
  unfolding count_below
  count-hit n e = rw (add-one n, e)

  pub count-miss : (n : ℕ) → f n ≡ false → count_below (n + 1) f ≡ count_below n f
  unfolding count_below
  count-miss n e = rw (add-one n, e)

  pub count-le : (n : ℕ) → count_below n f ≤ n
  unfolding count_below
  count-le zero = omega arith
  count-le (suc n) = go (f n) (count-le n)
    where
      go : (b : Bool) → count_below n f ≤ n → cond b (count_below n f + 1) (count_below n f) ≤ suc n
      go true h = omega arith
      go false h = omega arith

pub all-cong : (f g : ℕ → Bool) (n : ℕ) → ((k : ℕ) → k < n → f k ≡ g k) → all_below n f ≡ all_below n g
unfolding all_below
all-cong f g zero h = refl
all-cong f g (suc n) h = rw (all-cong f g n (λ k l. h k (omega arith)), h n (omega arith))

pub count-cong : (f g : ℕ → Bool) (n : ℕ) → ((k : ℕ) → k < n → f k ≡ g k) → count_below n f ≡ count_below n g
unfolding count_below
count-cong f g zero h = refl
count-cong f g (suc n) h = rw (h n (omega arith), count-cong f g n (λ k l. h k (omega arith)))

-- `if !f(..) { return false; }`: what the test says of the value x that f's answer equals
pub was-false : {r x : Bool} → not r ≡ true → r ≡ x → x ≡ false
was-false {r} p q = sym q ∙ no_true r p
  where
    no_true : (b : Bool) → not b ≡ true → b ≡ false
    no_true true e = sym e
    no_true false e = refl

pub was-true : {r x : Bool} → not r ≡ false → r ≡ x → x ≡ true
was-true {r} p q = sym q ∙ no_false r p
  where
    no_false : (b : Bool) → not b ≡ false → b ≡ true
    no_false true e = refl
    no_false false e = sym e
