-- How many segments a file holds when its begin or its end moves by one, and where its positions have theirs: s is a species, b the begin,
-- e the end. Assumes nothing.
use Rattle.std.specs.Prelude.{ℕ, ◌+◌, ◌-◌, ◌/◌, ◌≤◌, ◌<◌, ◌≡◌}
use Rattle.std.proofs.Math.Path.{ap}
use Rattle.std.proofs.Common.{◌∙◌, lt-ltb, le-ltb}
use Rattle.std.proofs.Math.Logic.{⊎_elim}
use Rattle.std.proofs.Math.Nat.{add-div_right}
use native.Mathlib.Omega.{arith}
use Rattle.combine.specs.Laws.Numbers.{le-or-lt}
use Rattle.placing.specs.Sizes.{greatest_species, elements_of}
use Rattle.placing.specs.Placing.{stretch_of, held_of, slot_of}
use Rattle.placing.specs.Laws.Sized.{elements-many, stretch-mono}

-- a file with elements, and an empty one
pub held-some : (s b e : ℕ) → b < e → held_of s b e ≡ stretch_of s (e - 1) - stretch_of s b + 1
unfolding held_of
held-some s b e l = simp (lt-ltb b e l)

pub held_none : (s b e : ℕ) → e ≤ b → held_of s b e ≡ 0
unfolding held_of
held_none s b e l = simp (le-ltb b e l)

module _ (s : ℕ) (h : s ≤ greatest_species) where
  -- as many positions on as a segment has elements
  stretch-far : (x : ℕ) → 1 ≤ x → stretch_of s (x + elements_of s) ≡ stretch_of s x + 1
  unfolding stretch_of
  stretch-far x l =
      let m = elements-many s h in
      let e : x + elements_of s - 1 ≡ x - 1 + elements_of s = omega arith in
      ap (λ (y : ℕ). y / elements_of s) e ∙ add-div_right (x - 1) {k = elements_of s} (omega arith)

  -- the next position is in the same stretch, or in the next
  stretch-next : (x : ℕ) → 1 ≤ x → stretch_of s (x + 1) ≤ stretch_of s x + 1
  stretch-next x l = omega (arith, stretch-far x l, stretch-mono s h (x + 1) (x + elements_of s) (let m = elements-many s h in omega arith))

  module _ (b : ℕ) (first : 1 ≤ b) where
    -- a position of the file has a slot in its list
    pub slot-within : (e x : ℕ) → b ≤ x → x < e → slot_of s b x < held_of s b e
    unfolding slot_of
    slot-within e x l m = omega (arith, held-some s b e (omega arith), stretch-mono s h b x l, stretch-mono s h x (e - 1) (omega arith))

    -- the position after the last has the last slot, or the next
    pub slot-at-end : (e : ℕ) → b ≤ e → slot_of s b e ≤ held_of s b e
    unfolding slot_of
    slot-at-end e l = ⊎_elim (λ q. empty q) (λ q. some q) (le-or-lt e b)
      where
        empty : e ≤ b → stretch_of s e - stretch_of s b ≤ held_of s b e
        empty q = omega (arith, held_none s b e q, stretch-mono s h e b q)

        some : b < e → stretch_of s e - stretch_of s b ≤ held_of s b e
        some q =
            let p : e - 1 + 1 ≡ e = omega arith in
            omega (arith, held-some s b e q, ap (stretch_of s) p, stretch-next (e - 1) (omega arith), stretch-mono s h b (e - 1) (omega arith))

    -- the file that ends behind position x
    pub held-behind : (x : ℕ) → b ≤ x → held_of s b (x + 1) ≡ slot_of s b x + 1
    unfolding slot_of
    held-behind x l =
        let p : x + 1 - 1 ≡ x = omega arith in
        held-some s b (x + 1) (omega arith) ∙ ap (λ (y : ℕ). stretch_of s y - stretch_of s b + 1) p

    module _ (e : ℕ) (some : b < e) where
      -- the first element leaves
      pub held-from-next : (held_of s (b + 1) e ≤ held_of s b e) × (held_of s b e ≤ held_of s (b + 1) e + 1)
      held-from-next = ⊎_elim one more (le-or-lt e (b + 1))
        where
          one : e ≤ b + 1 → (held_of s (b + 1) e ≤ held_of s b e) × (held_of s b e ≤ held_of s (b + 1) e + 1)
          one q =
              let p : e - 1 ≡ b = omega arith in
              let f = held-some s b e some in
              let n = held_none s (b + 1) e q in
              let a = ap (stretch_of s) p in
              (omega arith, omega arith)

          more : b + 1 < e → (held_of s (b + 1) e ≤ held_of s b e) × (held_of s b e ≤ held_of s (b + 1) e + 1)
          more q =
              let f = held-some s b e some in
              let n = held-some s (b + 1) e q in
              let a = stretch-next b first in
              let m = stretch-mono s h b (b + 1) (omega arith) in
              let k = stretch-mono s h (b + 1) (e - 1) (omega arith) in
              (omega arith, omega arith)

      -- the last element leaves
      pub held-to-last : (held_of s b (e - 1) ≤ held_of s b e) × (held_of s b e ≤ held_of s b (e - 1) + 1)
      held-to-last =
          let p : e - 1 + 1 ≡ e = omega arith in
          let f = ap (held_of s b) p in
          let g = held-behind (e - 1) (omega arith) in
          let a = slot-at-end (e - 1) (omega arith) in
          (⊎_elim (λ q. omega (arith, held_none s b (e - 1) q)) (λ q. inner q) (le-or-lt (e - 1) b), omega arith)
        where
          inner : b < e - 1 → held_of s b (e - 1) ≤ held_of s b e
          inner q = omega (arith, held-some s b (e - 1) q, held-some s b e some, stretch-mono s h (e - 1 - 1) (e - 1) (omega arith))

      -- how many stretches are dropped with the first element
      pub dropped : b + 1 < e → held_of s b e - held_of s (b + 1) e ≡ stretch_of s (b + 1) - stretch_of s b
      dropped q =
          omega (
            arith,
            held-some s b e some,
            held-some s (b + 1) e q,
            stretch-mono s h b (b + 1) (omega arith),
            stretch-mono s h (b + 1) (e - 1) (omega arith),
          )

    pub held-grows : (e : ℕ) → b ≤ e → held_of s b e ≤ slot_of s b e + 1
    unfolding slot_of
    held-grows e l = ⊎_elim
        (λ q. omega (arith, held_none s b e q))
        (λ q. omega (arith, held-some s b e q, stretch-mono s h (e - 1) e (omega arith)))
        (le-or-lt e b)
