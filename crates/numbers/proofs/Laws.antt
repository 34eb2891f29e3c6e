-- What the code's sums and tests are, in numbers: a signed number n is read back from its bits, to_z w32 (of_z w32 n).
-- Assumes nothing.
use Prim.Native.Nat.{ℕ, suc, ◌-◌, ◌*◌, ◌/◌, ◌%◌, ◌^◌, ◌≤◌, ◌<◌}
use mathlib.Core.Path.{◌≡◌, refl, sym, ap, ◌∙◌}
use mathlib.Core.Bool.{Bool, true, false, ◌||◌}
use native.Mathlib.Nat.{one-mul}
use native.Mathlib.Omega.{arith}
use lib.Dec.{lit≤}
use lib.IntN.{ℤ, pos, negsuc, ◌-ℤ◌}
use lib.Pow.{shl_exact}
use lib.Signed.{mag, lt_z}
use borrow.Author.Tests.{ltb-true, le-ltb}
use mir.Syntax.{w32}
use mir.Val.{SFits, of_z, to_z}
use mir.ValLaws.{to_z-of_z, to_z_pos}
use Rattle.placing.specs.Sizes.{greatest_species, width_of}
use Rattle.placing.specs.Laws.Sized.{bit-fits}
use Rattle.numbers.specs.Numbers.{least_signed, greatest_signed, top_bit, signed_ways, signed_of, signed_bits, out_of_range}
use Rattle.numbers.specs.Laws.Numbers.{by-top}

-- ---- value: the rest less what the top bit counts

module _ (b : ℕ) where
  pub value-fits : SFits w32 (signed_of b)
  value-fits = by-top b (SFits w32) (λ e. record { sfits = omega arith }) (λ e. record { sfits = omega arith })

  pub value-is : to_z w32 (b % top_bit) -ℤ to_z w32 (b / top_bit % 2 * top_bit) ≡ signed_of b
  unfolding signed_of
  value-is = λ i. to_z_pos w32 (b % top_bit) (omega arith) i -ℤ to_z_pos w32 (b / top_bit % 2 * top_bit) (omega arith) i

-- ---- signed_bits: of n and of -(n + 1), which the code takes from -1, it uses n

minus : (z : ℤ) → lt_z z (pos 0) ≡ true → (negsuc 0 -ℤ z ≡ pos (mag z)) × (signed_ways - 1 - mag z % signed_ways ≡ signed_bits z)
unfolding signed_bits
minus (pos n) t = absurd (omega (arith, ltb-true n 0 t))
minus (negsuc k) t = (simp (le-ltb (suc k) 1 (omega arith)) (ap pos (omega arith)), refl)

plus : (z : ℤ) → lt_z z (pos 0) ≡ false → (z ≡ pos (mag z)) × (mag z % signed_ways ≡ signed_bits z)
unfolding signed_bits
plus (pos n) t = (refl, refl)
plus (negsuc k) t = let e : ◌≡◌ {A = ℕ} 0 1 = cc in absurd (omega arith)

module _ (z : ℤ) (f : SFits w32 z) where
  pub read_back : to_z w32 (of_z w32 z) ≡ z
  read_back = to_z-of_z w32 z f

  module _ (t : lt_z (to_z w32 (of_z w32 z)) (pos 0) ≡ true) where
    pub below-is : negsuc 0 -ℤ to_z w32 (of_z w32 z) ≡ pos (mag z)
    below-is = ap (λ (y : ℤ). negsuc 0 -ℤ y) read_back ∙ (minus z (rw read_back at t)).0

    pub below-reads : to_z w32 (of_z w32 (negsuc 0 -ℤ to_z w32 (of_z w32 z))) ≡ pos (mag z)
    below-reads = ap (λ (y : ℤ). to_z w32 (of_z w32 y)) below-is ∙ to_z_pos w32 (mag z) f.sfits

    pub below-bits : signed_ways - 1 - mag z % signed_ways ≡ signed_bits z
    below-bits = (minus z (rw read_back at t)).1

  module _ (t : lt_z (to_z w32 (of_z w32 z)) (pos 0) ≡ false) where
    pub plus-reads : to_z w32 (of_z w32 z) ≡ pos (mag z)
    plus-reads = read_back ∙ (plus z (rw read_back at t)).0

    pub plus-bits : mag z % signed_ways ≡ signed_bits z
    plus-bits = (plus z (rw read_back at t)).1

  -- ---- is_out_of_range: b is the first test, and the second is made where it is false

  pub out-is : (b : Bool) → lt_z (to_z w32 (of_z w32 z)) least_signed ≡ b → (b || lt_z greatest_signed (to_z w32 (of_z w32 z))) ≡ out_of_range z
  unfolding out_of_range
  out-is b t = ap (λ (a : Bool). a || lt_z greatest_signed (to_z w32 (of_z w32 z))) (sym t) ∙ ap (λ (y : ℤ). lt_z y least_signed || lt_z greatest_signed y) read_back

-- ---- is_too_wide_plain: nothing is shifted out of 64 bits

module _ (s r : ℕ) (h : s ≤ greatest_species) (e : r ≡ width_of s) where
  pub width-most : r < 64
  width-most = omega (arith, bit-fits s h (record { 0 = 1 }))

  pub limit_is : 1 * 2 ^ r % 2 ^ 64 ≡ 2 ^ width_of s
  limit_is = shl_exact 1 r 64 (lit≤ tt) (let l = width-most in omega arith) ∙ one-mul (2 ^ r) ∙ ap (λ (n : ℕ). 2 ^ n) e
