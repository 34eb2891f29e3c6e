-- Laws of numbers/specs/Numbers.antt. Assumes nothing.
use Rattle.std.specs.Prelude.{ℕ, ◌-◌, ◌*◌, ◌/◌, ◌%◌, ◌^◌, ◌<◌, ◌≡◌, refl, true, false, ltb, ℤ, ◌-ℤ◌}
use Rattle.std.proofs.Common.{sym, subst, ◌∙◌, arith, ltb→lt, nltb→le, ltb-false, lt-ltb, le-ltb, leb-false}
use Rattle.std.proofs.Math.Path.{ap}
use Rattle.std.proofs.Math.Bool.{or-false}
use Rattle.std.proofs.Math.IntN.{pos, negsuc}
use Rattle.std.specs.Int.Signed.{mag}
use Rattle.combine.specs.Laws.Tests.{by-test}
use Rattle.placing.specs.Sizes.{signed_species, width_of}
use Rattle.numbers.specs.declared.Number.{Number}
use Rattle.numbers.specs.declared.Number.TheVariants.{Plain, Signed}
use Rattle.numbers.specs.Numbers.{top_bit, signed_ways, signed_of, signed_bits, out_of_range, is_signed, too_wide, bits_of}

-- ---- the number that bits stand for: the rest where the top bit is 0, and the rest less 32,768 where it is 1

module _ (b : ℕ) where
  pub top-off : b / top_bit % 2 ≡ 0 → signed_of b ≡ pos (b % top_bit)
  unfolding signed_of
  top-off e = ap (λ (q : ℕ). pos (b % top_bit) -ℤ pos (q * top_bit)) e ∙ ap pos (omega arith)

  pub top-on : b / top_bit % 2 ≡ 1 → signed_of b ≡ negsuc (top_bit - 1 - b % top_bit)
  unfolding signed_of
  top-on e = ap (λ (q : ℕ). pos (b % top_bit) -ℤ pos (q * top_bit)) e ∙ simp (lt-ltb (b % top_bit) top_bit (omega arith)) (ap negsuc (omega arith))

  pub by-top : (P : ℤ → Type 0) → (b / top_bit % 2 ≡ 0 → P (pos (b % top_bit))) → (b / top_bit % 2 ≡ 1 → P (negsuc (top_bit - 1 - b % top_bit))) → P (signed_of b)
  by-top P off on =
      by-test
      (ltb (b / top_bit % 2) 1)
      (λ t. let e : b / top_bit % 2 ≡ 0 = omega (arith, ltb→lt (b / top_bit % 2) 1 t) in subst P (sym (top-off e)) (off e))
      (λ t. let e : b / top_bit % 2 ≡ 1 = omega (arith, nltb→le (b / top_bit % 2) 1 t) in subst P (sym (top-on e)) (on e))

-- ---- the range: n and -(n + 1) are in it where n is below 32,768

range-mag : (z : ℤ) → out_of_range z ≡ false → mag z < top_bit
unfolding out_of_range
range-mag (pos n) h = omega (arith, ltb-false (top_bit - 1) n h)
range-mag (negsuc k) h = omega (arith, ltb-false (top_bit - 1) k (sym (or-false (ltb (top_bit - 1) k)) ∙ h))

mag-range : (z : ℤ) → mag z < top_bit → out_of_range z ≡ false
unfolding out_of_range
mag-range (pos n) h = le-ltb (top_bit - 1) n (omega arith)
mag-range (negsuc k) h = simp (le-ltb (top_bit - 1) k (omega arith))

-- ---- bits and numbers, there and back

pub signed-small : (z : ℤ) → signed_bits z < signed_ways
unfolding signed_bits
signed-small (pos n) = omega arith
signed-small (negsuc k) = omega arith

back : (z : ℤ) → mag z < top_bit → signed_of (signed_bits z) ≡ z
unfolding signed_bits
back (pos n) h = top-off (n % signed_ways) (omega arith) ∙ ap pos (omega arith)
back (negsuc k) h = top-on (signed_ways - 1 - k % signed_ways) (omega arith) ∙ ap negsuc (omega arith)

pub signed_back : (z : ℤ) → out_of_range z ≡ false → signed_of (signed_bits z) ≡ z
signed_back z h = back z (range-mag z h)

pub bits_back : (b : ℕ) → b < signed_ways → (out_of_range (signed_of b) ≡ false) × (signed_bits (signed_of b) ≡ b)
unfolding signed_bits
bits_back b h =
    by-top
    b
    (λ (z : ℤ). (out_of_range z ≡ false) × (signed_bits z ≡ b))
    (λ e. (mag-range (pos (b % top_bit)) (omega arith), omega arith))
    (λ e. (mag-range (negsuc (top_bit - 1 - b % top_bit)) (omega arith), omega arith))

-- ---- what is stored has as many bits as its species

signed-ways : 2 ^ width_of signed_species ≡ signed_ways
unfolding width_of
signed-ways = refl

pub bits_small : (s : ℕ) (n : Number) → (is_signed n ≡ true → s ≡ signed_species) → too_wide s n ≡ false → bits_of n < 2 ^ width_of s
bits_small s (Plain n) h w = leb-false (2 ^ width_of s) n w
bits_small s (Signed z) h w = subst (λ (p : ℕ). signed_bits z < p) (sym (ap (λ (t : ℕ). 2 ^ width_of t) (h refl) ∙ signed-ways)) (signed-small z)
