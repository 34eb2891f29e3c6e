-- The laws of a field of digits, each once over the width w and the place s, and of an element of a cell: "Packing is shown once over the width."
-- Assumes nothing.
use Rattle.std.specs.Prelude.{◌≡◌, ◌⊎◌, ℕ, zero, suc, ◌+◌, ◌-◌, ◌*◌, ◌/◌, ◌%◌, ◌^◌, ◌≤◌, ◌<◌}
use Rattle.std.proofs.Common.{sym, ap, ◌∙◌, subst, ⊎_elim, mod-lt, mod-eq_of_lt, mul-suc, mul-zero, mul-le-mul_left, le_refl, add_comm, add-mul, arith, pow_pos, pow-add, shr_lt, shr-shr}
use Rattle.std.proofs.Math.Nat.{mod-one, mul-sub}
use Rattle.std.proofs.Math.Arith.{digits_lt}
use Rattle.std.proofs.Math.Pow.{high, low, mod-mod-pow}
use Rattle.std.proofs.lemmas.Nat.{mod-pow-add}
use Rattle.std.proofs.Math.Pow as P
use Rattle.combine.specs.Laws.Numbers.{le-or-lt}
use Rattle.packing.specs.Packing.{field, put_field, take_bits, put_bits}

-- ---- a field

pub field_lt : (w s n : ℕ) → field w s n < 2 ^ w
unfolding field
field_lt w s n = mod-lt (n / 2 ^ s) (pow_pos w)

-- what a put leaves above, and below
pub put-high : (w s n x : ℕ) → put_field w s n x / 2 ^ (s + w) ≡ n / 2 ^ (s + w)
unfolding put_field
put-high w s n x =
    sym (shr-shr (put_field w s n x) s w)
    ∙ ap (λ (y : ℕ). y / 2 ^ w) (high (n / 2 ^ (s + w) * 2 ^ w + x % 2 ^ w) s (mod-lt n (pow_pos s)))
    ∙ high (n / 2 ^ (s + w)) w (mod-lt x (pow_pos w))

pub put_low : (w s n x : ℕ) → put_field w s n x % 2 ^ s ≡ n % 2 ^ s
unfolding put_field
put_low w s n x = low (n / 2 ^ (s + w) * 2 ^ w + x % 2 ^ w) s (mod-lt n (pow_pos s))

pub field-same : (w s n x : ℕ) → field w s (put_field w s n x) ≡ x % 2 ^ w
unfolding field put_field
field-same w s n x =
    ap (λ (y : ℕ). y % 2 ^ w) (high (n / 2 ^ (s + w) * 2 ^ w + x % 2 ^ w) s (mod-lt n (pow_pos s)))
    ∙ low (n / 2 ^ (s + w)) w (mod-lt x (pow_pos w))

-- a field from t on is of what lies from t on, and a field below t of what lies below t
pub field-above : (w s t n m : ℕ) → t ≤ s → n / 2 ^ t ≡ m / 2 ^ t → field w s n ≡ field w s m
unfolding field
field-above w s t n m h e =
    let c : t + (s - t) ≡ s = omega arith in
    let g : (k : ℕ) → k / 2 ^ t / 2 ^ (s - t) ≡ k / 2 ^ s = (λ k. shr-shr k t (s - t) ∙ ap (λ (y : ℕ). k / 2 ^ y) c) in
    ap (λ (y : ℕ). y % 2 ^ w) (sym (g n) ∙ ap (λ (y : ℕ). y / 2 ^ (s - t)) e ∙ g m)

pub field_below : (w s t n m : ℕ) → w + s ≤ t → n % 2 ^ t ≡ m % 2 ^ t → field w s n ≡ field w s m
unfolding field
field_below w s t n m h e =
    let c : (t - (w + s)) + (w + s) ≡ t = omega arith in
    let g : (k : ℕ) → k % 2 ^ t % 2 ^ (w + s) ≡ k % 2 ^ (w + s) = (λ k. ap (λ (y : ℕ). k % 2 ^ y % 2 ^ (w + s)) (sym c) ∙ mod-mod-pow k (t - (w + s)) (w + s)) in
    sym (P.field n w s) ∙ ap (λ (y : ℕ). y / 2 ^ s) (sym (g n) ∙ ap (λ (y : ℕ). y % 2 ^ (w + s)) e ∙ g m) ∙ P.field m w s

pub field-other-above : (w s w' s' n x : ℕ) → s + w ≤ s' → field w' s' (put_field w s n x) ≡ field w' s' n
field-other-above w s w' s' n x h = field-above w' s' (s + w) (put_field w s n x) n h (put-high w s n x)

pub field-other-below : (w s w' s' n x : ℕ) → w' + s' ≤ s → field w' s' (put_field w s n x) ≡ field w' s' n
field-other-below w s w' s' n x h = field_below w' s' s (put_field w s n x) n h (put_low w s n x)

pub put-lt : (w s t n x : ℕ) → s + w ≤ t → n < 2 ^ t → put_field w s n x < 2 ^ t
unfolding put_field
put-lt w s t n x h l =
    let c : (t - (s + w)) + w + s ≡ t = omega arith in
    let c' : t ≡ (t - (s + w)) + (s + w) = omega arith in
    let a : n / 2 ^ (s + w) < 2 ^ (t - (s + w)) = shr_lt (t - (s + w)) (s + w) (subst (λ (y : ℕ). n < 2 ^ y) c' l) in
    let b : n / 2 ^ (s + w) * 2 ^ w + x % 2 ^ w < 2 ^ (t - (s + w)) * 2 ^ w = digits_lt a (mod-lt x (pow_pos w)) in
    subst (λ (y : ℕ). put_field w s n x < y) (ap (λ (y : ℕ). y * 2 ^ s) (sym (pow-add 2 (t - (s + w)) w)) ∙ sym (pow-add 2 (t - (s + w) + w) s) ∙ ap (λ (y : ℕ). 2 ^ y) c)
    (digits_lt b (mod-lt n (pow_pos s)))

-- the low k fields of w digits agree: the low w * k digits do
pub fields-eq : (w k n m : ℕ) → ((i : ℕ) → i < k → field w (w * i) n ≡ field w (w * i) m) → n % 2 ^ (w * k) ≡ m % 2 ^ (w * k)
unfolding field
fields-eq w zero n m h = ap (λ (y : ℕ). n % 2 ^ y) (mul-zero w) ∙ mod-one n ∙ sym (ap (λ (y : ℕ). m % 2 ^ y) (mul-zero w) ∙ mod-one m)
fields-eq w (suc k) n m h =
    let e : w * suc k ≡ w + w * k = mul-suc w k ∙ add_comm (w * k) w in
    let g : (y : ℕ) → y % 2 ^ (w * suc k) ≡ (y / 2 ^ (w * k) % 2 ^ w) * 2 ^ (w * k) + y % 2 ^ (w * k) = (λ y. ap (λ (z : ℕ). y % 2 ^ z) e ∙ mod-pow-add y w (w * k)) in
    g n ∙ (λ i. h k (le_refl (suc k)) i * 2 ^ (w * k) + fields-eq w k n m (λ j l. h j (omega arith)) i) ∙ sym (g m)

-- the same put, as the code has it: the old field out, the new one in
pub put-sum : (w s n x : ℕ) → n + x % 2 ^ w * 2 ^ s ≡ put_field w s n x + field w s n * 2 ^ s
unfolding field put_field
put-sum w s n x =
    let q : ℕ = n / 2 ^ s in
    let v : ℕ = x % 2 ^ w in
    let split-n : q * 2 ^ s + n % 2 ^ s ≡ n = P.split n s in
    let split-q : n / 2 ^ (s + w) * 2 ^ w + q % 2 ^ w ≡ q = ap (λ (y : ℕ). y * 2 ^ w + q % 2 ^ w) (sym (shr-shr n s w)) ∙ P.split q w in
    omega (arith, ap (λ (y : ℕ). y * 2 ^ s) split-q, add-mul (n / 2 ^ (s + w) * 2 ^ w) (q % 2 ^ w) (2 ^ s), add-mul (n / 2 ^ (s + w) * 2 ^ w) v (2 ^ s))

-- ---- an element of a cell

pub bits-lt : (w t cell : ℕ) → take_bits w t cell < 2 ^ w
unfolding take_bits
bits-lt w t cell = field_lt w (32 - (t + w)) cell

pub bits-same : (w t cell x : ℕ) → take_bits w t (put_bits w t cell x) ≡ x % 2 ^ w
unfolding take_bits put_bits
bits-same w t cell x = field-same w (32 - (t + w)) cell x

-- an element beside it, of whatever width
pub bits-before : (w t w' t' cell x : ℕ) → t' + w' ≤ t → t + w ≤ 32 → take_bits w' t' (put_bits w t cell x) ≡ take_bits w' t' cell
unfolding take_bits put_bits
bits-before w t w' t' cell x h l = field-other-above w (32 - (t + w)) w' (32 - (t' + w')) cell x (omega arith)

pub bits-after : (w t w' t' cell x : ℕ) → t + w ≤ t' → t' + w' ≤ 32 → take_bits w' t' (put_bits w t cell x) ≡ take_bits w' t' cell
unfolding take_bits put_bits
bits-after w t w' t' cell x h l = field-other-below w (32 - (t + w)) w' (32 - (t' + w')) cell x (omega arith)

pub bits-put-lt : (w t cell x : ℕ) → t + w ≤ 32 → cell < 2 ^ 32 → put_bits w t cell x < 2 ^ 32
unfolding put_bits
bits-put-lt w t cell x h l = put-lt w (32 - (t + w)) 32 cell x (omega arith) l

-- two cells with the same k elements, of w * k digits, are the same
pub bits-eq : (w k n m : ℕ) → w * k ≡ 32 → n < 2 ^ 32 → m < 2 ^ 32 → ((j : ℕ) → j < k → take_bits w (w * j) n ≡ take_bits w (w * j) m) → n ≡ m
unfolding take_bits
bits-eq w k n m e ln lm h =
    let top : (i : ℕ) → i < k → 32 - (w * (k - suc i) + w) ≡ w * i =
    (λ i l. omega (arith, e, mul-sub w k (suc i), mul-suc w i, mul-le-mul_left {m = suc i} {n = k} w l)) in
    sym (mod-eq_of_lt ln) ∙ ap (λ (y : ℕ). n % 2 ^ y) (sym e)
    ∙ fields-eq w k n m (λ i l. ap (λ (y : ℕ). field w y n) (sym (top i l)) ∙ h (k - suc i) (omega arith) ∙ ap (λ (y : ℕ). field w y m) (top i l))
    ∙ ap (λ (y : ℕ). m % 2 ^ y) e ∙ mod-eq_of_lt lm

-- element number j of a cell is the one at w * j; another element of the cell is as it was
pub bits-other : (w j j' cell x : ℕ) → w * j + w ≤ 32 → w * j' + w ≤ 32 → (j' ≡ j → ⊥) → take_bits w (w * j') (put_bits w (w * j) cell x) ≡ take_bits w (w * j') cell
bits-other w j j' cell x h h' ne =
    ⊎_elim
    (λ p. bits-before w (w * j) w (w * j') cell x (omega (arith, mul-suc w j', mul-le-mul_left {m = suc j'} {n = j} w (omega arith))) h)
    (λ p. bits-after w (w * j) w (w * j') cell x (omega (arith, mul-suc w j, mul-le-mul_left {m = suc j} {n = j'} w p)) h')
    (le-or-lt j' j)
