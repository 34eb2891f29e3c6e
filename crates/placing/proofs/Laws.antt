-- What the sums of the placing rules' code are, in plain numbers. Assumes nothing.
use mathlib.Core.Path.{◌≡◌, refl, sym, ap, subst, ◌∙◌}
use mathlib.Core.Logic.{⊎_elim}
use Prim.Native.Nat.{ℕ, ◌+◌, ◌-◌, ◌*◌, ◌/◌, ◌%◌, ◌≤◌, ◌<◌}
use native.Mathlib.Nat.{div-le_self, div-add-mod, mod-lt, mul_comm, add-mul, mul-le-mul_right}
use native.Mathlib.Omega.{arith}
use borrow.Author.Tests.{lt-ltb, le-ltb}
use Rattle.combine.specs.Laws.Numbers.{le-or-lt}
use Rattle.placing.specs.Sizes.{most_held, greatest_species, width_of, elements_of}
use Rattle.placing.specs.Laws.Sized.{sized, elements-many, offset-bits, stretch-mono}
use Rattle.placing.specs.Laws.Held as file
use Rattle.placing.specs.Placing.{stretch_of, offset_of, held_of, claim_of, slot_of}

module _ (s : ℕ) (h : s ≤ greatest_species) where
  pub bits-code : (x E w : ℕ) → E ≡ elements_of s → w ≡ width_of s → ((x - 1) % E * w ≡ offset_of s x * width_of s) × ((x - 1) % E * w < 2048)
  unfolding offset_of
  bits-code x E w e_e ew =
      let e : (x - 1) % E * w ≡ offset_of s x * width_of s = λ i. (x - 1) % e_e i * ew i in
      (e, subst (λ (n : ℕ). n < 2048) (sym e) (offset-bits s h x))

  pub places-code : (b x p q : ℕ) → b ≤ x → p ≡ stretch_of s b → q ≡ stretch_of s x → p ≤ q
  places-code b x p q l ep eq = omega (arith, stretch-mono s h b x l)

  -- an empty file
  pub held_none : (b e : ℕ) → b ≡ e → 0 ≡ held_of s b e
  unfolding held_of
  held_none b e q = rw (le-ltb b e (omega arith)) refl

  pub claim-none : (b e : ℕ) → b ≡ e → 0 ≡ claim_of s b e
  unfolding claim_of
  claim-none b e q = rw (le-ltb b e (omega arith)) refl

  pub held-some : (b e n : ℕ) → b < e → n ≡ slot_of s b (e - 1) → n + 1 ≡ held_of s b e
  unfolding held_of slot_of
  held-some b e n l q = rw (lt-ltb b e l) (omega arith)

  -- a list's place and 1 fit
  pub place-fits : (b x n : ℕ) → x < 4294967295 → n ≡ slot_of s b x → n + 1 < 4294967296
  unfolding slot_of stretch_of
  place-fits b x n l q = omega (arith, div-le_self (x - 1) (elements_of s))

  -- what is left of a stretch
  pub left-code : (x E : ℕ) → E ≡ elements_of s → ((x - 1) % E ≤ E) × (E - (x - 1) % E ≡ elements_of s - offset_of s x)
  unfolding offset_of
  left-code x E e =
      let many = elements-many s h in
      let off : (x - 1) % E < E = mod-lt (x - 1) (omega arith) in
      (omega arith, λ i. e i - (x - 1) % e i)

  -- a file that holds something is not empty
  pub claim-empty : (b e n : ℕ) → b ≤ e → n ≡ held_of s b e → n ≡ 0 → 0 ≡ claim_of s b e
  claim-empty b e n l q z = ⊎_elim (λ m. claim-none b e (omega arith)) (λ m. absurd (let y : ⊥ = omega (arith, file.held-some s b e m) in y)) (le-or-lt e b)

  pub claim-some : (b e n E : ℕ) → 1 ≤ b → b ≤ e → n ≡ held_of s b e → (n ≡ 0 → ⊥) → n ≤ most_held → E ≡ elements_of s
      → (n * E < 4294967296) × ((b - 1) % E ≤ n * E) × (n * E - (b - 1) % E ≡ claim_of s b e)
  unfolding claim_of stretch_of
  claim-some b e n E hb l en some most e_e =
      let k : ℕ = elements_of s in
      let sz = sized s h in
      let many = elements-many s h in
      let few = sz.few in
      let m : b < e = ⊎_elim (λ z. absurd (some (en ∙ sym (held_none b e (omega arith))))) (λ z. z) (le-or-lt e b) in
      let held = file.held-some s b e m in
      let mono = stretch-mono s h b (e - 1) (omega arith) in
      let q : ℕ = (b - 1) / k in
      let last : (e - 1 - 1) / k + 1 ≡ n + q = omega arith in
      let parts : (n + q) * k ≡ n * k + q * k = add-mul n q k in
      let first : k * q + (b - 1) % k ≡ b - 1 = div-add-mod (b - 1) k in
      let turned : k * q ≡ q * k = mul_comm k q in
      let off : (b - 1) % k < k = mod-lt (b - 1) (omega arith) in
      let whole : 1 * k ≤ n * k = mul-le-mul_right {m = 1} {n = n} k (omega arith) in
      let room : n * k ≤ 32 * k = mul-le-mul_right {m = n} {n = 32} k (omega arith) in
      let big : ((e - 1 - 1) / k + 1) * k ≡ n * k + q * k = ap (λ (y : ℕ). y * k) last ∙ parts in
      subst (λ (y : ℕ). (n * y < 4294967296) × ((b - 1) % y ≤ n * y) × (n * y - (b - 1) % y ≡ claim_of s b e)) (sym e_e)
      (omega arith, omega arith, sym (rw (lt-ltb b e m) (omega arith)))
