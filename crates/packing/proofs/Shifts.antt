-- What the shifts of `take_bits` and `put_bits` are. Assumes nothing.
use mathlib.Core.Path.{◌≡◌, ap, ◌∙◌}
use Prim.Native.Nat.{ℕ, ◌+◌, ◌-◌, ◌*◌, ◌/◌, ◌%◌, ◌^◌, ◌≤◌}
use native.Mathlib.Nat.{mod-lt, mul-div-mul_right, div-one, le_trans, mul-le-mul_right, mod-le, div-mul-le_self}
use native.Mathlib.Omega.{arith}
use lib.Pow.{pow_pos, pow-add, shl_exact}
use lib.Pow as P
use Rattle.packing.specs.Packing.{field, take_bits, put_bits}
use Rattle.packing.specs.Laws.Fields.{field_lt, put-sum}

-- ---- what the two shifts of the code are

-- `(n << t) >> (32 - w)`
pub two-shifts : (w t n : ℕ) → t + w ≤ 32 → (n * 2 ^ t) % 2 ^ 32 / 2 ^ (32 - w) ≡ take_bits w t n
unfolding take_bits field
two-shifts w t n h =
    let e : 32 ≡ w + (32 - w) = omega arith in
    let e' : 32 - w ≡ (32 - (t + w)) + t = omega arith in
    ap (λ (y : ℕ). (n * 2 ^ t) % 2 ^ y / 2 ^ (32 - w)) e ∙ P.field (n * 2 ^ t) w (32 - w)
    ∙ ap (λ (y : ℕ). n * 2 ^ t / y % 2 ^ w) (ap (λ (y : ℕ). 2 ^ y) e' ∙ pow-add 2 (32 - (t + w)) t)
    ∙ ap (λ (y : ℕ). y % 2 ^ w) (mul-div-mul_right n (2 ^ (32 - (t + w))) (pow_pos t))

-- the low w digits of x, by the same two shifts
pub bits-low : (w x : ℕ) → w ≤ 32 → take_bits w (32 - w) x ≡ x % 2 ^ w
unfolding take_bits field
bits-low w x h =
    let e : 32 - (32 - w + w) ≡ 0 = omega arith in
    ap (λ (y : ℕ). x / 2 ^ y % 2 ^ w) e ∙ ap (λ (y : ℕ). y % 2 ^ w) (div-one x)

-- a field in its place is part of the number
pub field-le : (w s n : ℕ) → field w s n * 2 ^ s ≤ n
unfolding field
field-le w s n = le_trans (mul-le-mul_right (2 ^ s) (mod-le (n / 2 ^ s) (2 ^ w))) (div-mul-le_self n (2 ^ s))

-- the code's put: a is the old element, b the new, each shifted to its place
pub put-code : (w t n x a b : ℕ) → t + w ≤ 32 → a ≡ take_bits w t n → b ≡ take_bits w (32 - w) x
    → ((a * 2 ^ (32 - (t + w))) % 2 ^ 32 ≤ n) × (n - (a * 2 ^ (32 - (t + w))) % 2 ^ 32 + (b * 2 ^ (32 - (t + w))) % 2 ^ 32 ≡ put_bits w t n x)
unfolding take_bits put_bits
put-code w t n x a b h ea eb =
    let s : ℕ = 32 - (t + w) in
    let fits : w + s ≤ 32 = omega arith in
    let eb' : b ≡ x % 2 ^ w = eb ∙ bits-low w x (omega arith) in
    let qa : (a * 2 ^ s) % 2 ^ 32 ≡ field w s n * 2 ^ s = ap (λ (y : ℕ). (y * 2 ^ s) % 2 ^ 32) ea ∙ shl_exact w s 32 (field_lt w s n) fits in
    let qb : (b * 2 ^ s) % 2 ^ 32 ≡ x % 2 ^ w * 2 ^ s = ap (λ (y : ℕ). (y * 2 ^ s) % 2 ^ 32) eb' ∙ shl_exact w s 32 (mod-lt x (pow_pos w)) fits in
    (omega (arith, field-le w s n), omega (arith, field-le w s n, put-sum w s n x))
