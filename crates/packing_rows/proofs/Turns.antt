-- Bits that wait: numbers and cells that come below them, and what is cut off their top. Assumes nothing.
use mathlib.Core.Path.{◌≡◌, sym, ap, subst, ◌∙◌}
use mathlib.Core.List.{List}
use Prim.Native.Nat.{ℕ, ◌+◌, ◌-◌, ◌*◌, ◌/◌, ◌%◌, ◌^◌, ◌≤◌, ◌<◌}
use native.Mathlib.Nat.{add-mul, mul_assoc, mod-eq_of_lt, lt_of_lt_of_le}
use native.Mathlib.Omega.{arith}
use lib.Arith.{digits_lt}
use lib.ListN.{length, get_or, take}
use lib.Pow.{pow-add, pow_mono, shl_exact, shr_lt, split}
use Rattle.packing.specs.Packing.{sum}
use Rattle.packing_rows.specs.Waiting.{Narrow, Fitting, Begun, Packs}
use Rattle.packing_rows.specs.Longer.{sum-fewer, packed-suc}

pow-shift : (r k b : ℕ) → r * 2 ^ k * 2 ^ b ≡ r * 2 ^ (k + b)
pow-shift r k b = mul_assoc r (2 ^ k) (2 ^ b) ∙ ap (λ (y : ℕ). r * y) (sym (pow-add 2 k b))

-- ---- w digits x below the b digits v

module _ (v b w x : ℕ) (fits : v < 2 ^ b) (few : x < 2 ^ w) where
  pub below-lt : v * 2 ^ w + x < 2 ^ (b + w)
  below-lt = subst (λ (y : ℕ). v * 2 ^ w + x < y) (sym (pow-add 2 b w)) (digits_lt fits few)

  pub below_row : (row : ℕ) → (row * 2 ^ b + v) * 2 ^ w + x ≡ row * 2 ^ (b + w) + (v * 2 ^ w + x)
  below_row row = omega (arith, add-mul (row * 2 ^ b) v (2 ^ w), pow-shift row b w)

  module _ (room : b + w ≤ 64) where
    -- as the code has it
    pub below-shl : (v * 2 ^ w) % 2 ^ 64 + x ≡ v * 2 ^ w + x
    below-shl = ap (λ (y : ℕ). y + x) (shl_exact b w 64 fits room)

    pub below-fits : (v * 2 ^ w) % 2 ^ 64 + x < 2 ^ 64
    below-fits = subst (λ (y : ℕ). y < 2 ^ 64) (sym below-shl) (lt_of_lt_of_le below-lt (pow_mono room))

-- ---- the top k of the k + b digits v

module _ (v k b : ℕ) (fits : v < 2 ^ (k + b)) (room : k + b ≤ 64) where
  pub top_lt : v / 2 ^ b < 2 ^ k
  top_lt = shr_lt k b fits

  -- as the code has it
  shl-top : (v / 2 ^ b * 2 ^ b) % 2 ^ 64 ≡ v / 2 ^ b * 2 ^ b
  shl-top = shl_exact k b 64 top_lt room

  pub rest-is : v - (v / 2 ^ b * 2 ^ b) % 2 ^ 64 ≡ v % 2 ^ b
  rest-is = omega (arith, shl-top, split v b)

  pub top-row : (row : ℕ) → row * 2 ^ (k + b) + v ≡ (row * 2 ^ k + v / 2 ^ b) * 2 ^ b + v % 2 ^ b
  top-row row = omega (arith, add-mul (row * 2 ^ k) (v / 2 ^ b) (2 ^ b), pow-shift row k b, split v b)

-- ---- a number more comes below the bits that wait

module _ (ws xs : List ℕ) (narrow : Narrow ws) (long : length xs ≡ length ws) (fit : Fitting ws xs) where
  -- while the bits that wait fill no cell, and those to come would, there is a number more
  pub more_left : (next₀ next bits₀ bits : ℕ) → next ≤ length ws → sum (take next ws) + bits₀ ≡ sum (take next₀ ws) + bits → 32 + sum (take next₀ ws) ≤ bits₀ + sum ws → bits < 32 → next < length ws
  more_left next₀ next bits₀ bits l s m h = sum-fewer ws next l (omega arith)

  module _ (number bits next : ℕ) (begun : Begun ws number bits next) (h : bits < 32) (l : next < length ws) where
    abbrev width : ℕ
    width = get_or ws next 0

    room : bits + width ≤ 64
    room = omega (arith, (narrow next l).1)

    abbrev x : ℕ
    x = get_or xs next 0

    few : x < 2 ^ width
    few = fit next l

    pub gather-fits : (number * 2 ^ width) % 2 ^ 64 + x < 2 ^ 64
    gather-fits = below-fits number bits width x begun.2 few room

    pub gather-begun : Begun ws ((number * 2 ^ width) % 2 ^ 64 + x) (bits + width) (next + 1)
    gather-begun =
        (omega arith, omega (arith, (narrow next l).1), subst (λ (y : ℕ). y < 2 ^ (bits + width)) (sym (below-shl number bits width x begun.2 few room)) (below-lt number bits width x begun.2 few))

    pub gather-packs : (row : ℕ) → Packs ws xs row number bits next → Packs ws xs row ((number * 2 ^ width) % 2 ^ 64 + x) (bits + width) (next + 1)
    gather-packs row p =
        packed-suc ws xs next long l ∙ (λ j. p j * 2 ^ width + mod-eq_of_lt few j) ∙ below_row number bits width x begun.2 few row
        ∙ ap (λ (y : ℕ). row * 2 ^ (bits + width) + y) (sym (below-shl number bits width x begun.2 few room))
