-- A number tells its digits. Assumes nothing.
use Prim.Native.Nat.{ℕ, zero, suc, ◌+◌, ◌*◌, ◌≤◌, ◌<◌}
use mathlib.Core.Path.{◌≡◌, refl, ap, ◌∙◌}
use mathlib.Core.Logic.{⊎_elim}
use mathlib.Core.List.{List}
use native.Mathlib.Nat.{not-suc-le-zero, eq-or-lt_of_le, le_of_suc-le-suc}
use native.Mathlib.Omega.{arith}
use lib.ListN.{get_or}
use Rattle.combine.specs.Lists.{part}
use Rattle.combine.specs.Laws.Parts.{get_d_part}
use Rattle.sound_keys.specs.Keys.{digits}

pub digits-positive : (l : List ℕ) (at n : ℕ) → 1 ≤ digits l at n
unfolding digits
digits-positive l at zero = omega arith
digits-positive l at (suc n) = let h = digits-positive l at n in omega arith

-- the digits of a part of a list
pub digits-part : (l : List ℕ) (a n at m : ℕ) → at + m ≤ n → digits (part l a n) at m ≡ digits l (a + at) m
unfolding digits
digits-part l a n at zero h = refl
digits-part l a n at (suc m) h =
    let p : a + (at + m) ≡ a + at + m = omega arith in
    let d : get_or (part l a n) (at + m) 0 ≡ get_or l (a + at + m) 0 = get_d_part l a n (at + m) (omega arith) ∙ ap (λ (k : ℕ). get_or l k 0) p in
    (λ i. digits-part l a n at m (omega arith) i * 64 + d i)

module _ (l m : List ℕ) (at : ℕ) where
  pub digits_same : (n : ℕ) → ((k : ℕ) → k < n → get_or l (at + k) 0 < 64) → ((k : ℕ) → k < n → get_or m (at + k) 0 < 64) → digits l at n ≡ digits m at n → (k : ℕ) → k < n → get_or l (at + k) 0 ≡ get_or m (at + k) 0
  unfolding digits
  digits_same zero hl hm e k lk = absurd (not-suc-le-zero lk)
  digits_same (suc n) hl hm e k lk =
      let x = hl n (omega arith) in
      let y = hm n (omega arith) in
      let last : get_or l (at + n) 0 ≡ get_or m (at + n) 0 = omega arith in
      let rest : digits l at n ≡ digits m at n = omega arith in
      ⊎_elim (λ (q : k ≡ n). ap (λ (j : ℕ). get_or l (at + j) 0) q ∙ last ∙ ap (λ (j : ℕ). get_or m (at + j) 0) (let s : n ≡ k = omega arith in s))
      (λ (q : k < n). digits_same n (λ j r. hl j (omega arith)) (λ j r. hm j (omega arith)) rest k q)
      (eq-or-lt_of_le (le_of_suc-le-suc lk))
