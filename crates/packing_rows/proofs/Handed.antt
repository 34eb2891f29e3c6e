-- `rows::unpack`: the first `read` cells are read, and the next number is wider than the bits that wait are many.
-- Assumes nothing.
use mathlib.Core.Path.{◌≡◌, refl, sym, ap, subst, ◌∙◌}
use mathlib.Core.Logic.{⊎_elim}
use mathlib.Core.List.{List}
use Prim.Native.Nat.{ℕ, ◌+◌, ◌-◌, ◌*◌, ◌/◌, ◌%◌, ◌^◌, ◌≤◌, ◌<◌}
use native.Mathlib.Nat.{mod-lt, mod-eq_of_lt, le_refl, lt_of_lt_of_le, not-suc-le-zero, eq-or-lt_of_le}
use native.Mathlib.Omega.{arith}
use native.Mathlib.Decide.{ℕ_discrete}
use lib.ListN.{length, get_or, take, set, length-set}
use lib.Pow.{pow_pos, pow_mono, high}
use lib.Seq.{take_all, take-set-le, get_or-set_same, get_or-set_other}
use Rattle.packing.specs.Packing.{row_of, sum, packed, unpacked}
use Rattle.packing_rows.specs.Waiting.{Narrow, Begun, Unpacks}
use Rattle.packing_rows.specs.Pack.{unpack-packed, trimmed-same}
use Rattle.packing_rows.specs.Longer.{row-suc, sum-at, packed-suc}
use Rattle.packing_rows.proofs.Turns.{below-lt, below_row, below-shl, top_lt, rest-is, top-row}

-- ---- a number is handed out

module _ (ws : List ℕ) (narrow : Narrow ws) (number bits next : ℕ) (begun : Begun ws number bits next) (l : next < length ws) (enough : get_or ws next 0 ≤ bits) where
  abbrev width : ℕ
  width = get_or ws next 0

  abbrev rest : ℕ
  rest = bits - width

  bits_are : width + rest ≡ bits
  bits_are = omega arith

  fits : number < 2 ^ (width + rest)
  fits = subst (λ (y : ℕ). number < 2 ^ y) (sym bits_are) begun.2

  value-few : number / 2 ^ rest < 2 ^ width
  value-few = top_lt number width rest fits (omega (arith, begun.1))

  pub value-lt : number / 2 ^ rest < 2 ^ 32
  value-lt = lt_of_lt_of_le value-few (pow_mono (narrow next l).1)

  left_is : number - (number / 2 ^ rest * 2 ^ rest) % 2 ^ 64 ≡ number % 2 ^ rest
  left_is = rest-is number width rest fits (omega (arith, begun.1))

  pub handed-begun : Begun ws (number - (number / 2 ^ rest * 2 ^ rest) % 2 ^ 64) rest (next + 1)
  handed-begun = (omega arith, omega (arith, begun.1), subst (λ (y : ℕ). y < 2 ^ rest) (sym left_is) (mod-lt number (pow_pos rest)))

  module _ (ys : List ℕ) (long : length ys ≡ length ws) where
    value : ℕ
    value = number / 2 ^ rest

    at : get_or (set ys next value) next 0 ≡ value
    at = get_or-set_same ys next value 0 (omega arith)

    pub handed-unpacks : (row : ℕ) → Unpacks ws ys row number bits next → Unpacks ws (set ys next (number / 2 ^ rest)) row (number - (number / 2 ^ rest * 2 ^ rest) % 2 ^ 64) rest (next + 1)
    unfolding value
    handed-unpacks row u = (few, whole)
      where
        one : (k : ℕ) → k < next + 1 → Dec (k ≡ next) → get_or (set ys next value) k 0 < 2 ^ get_or ws k 0
        one k h (yes e) = subst (λ (y : ℕ). get_or (set ys next value) y 0 < 2 ^ get_or ws y 0) (sym e) (subst (λ (y : ℕ). y < 2 ^ width) (sym at) value-few)
        one k h (no d) = subst (λ (y : ℕ). y < 2 ^ get_or ws k 0) (sym (get_or-set_other ys next k value 0 d)) (u.0 k (omega arith))

        few : (k : ℕ) → k < next + 1 → get_or (set ys next value) k 0 < 2 ^ get_or ws k 0
        few k h = one k h (ℕ_discrete k next)

        more : packed (take (next + 1) ws) (take (next + 1) (set ys next value)) ≡ packed (take next ws) (take next ys) * 2 ^ width + value
        more =
            packed-suc ws (set ys next value) next (length-set ys next value ∙ long) l
            ∙ (λ j. packed (take next ws) (take-set-le next ys next value (le_refl next) j) * 2 ^ width + at j % 2 ^ width)
            ∙ ap (λ (y : ℕ). packed (take next ws) (take next ys) * 2 ^ width + y) (mod-eq_of_lt value-few)

        whole : row ≡ packed (take (next + 1) ws) (take (next + 1) (set ys next value)) * 2 ^ rest + (number - (value * 2 ^ rest) % 2 ^ 64)
        whole =
            u.1 ∙ ap (λ (y : ℕ). packed (take next ws) (take next ys) * 2 ^ y + number) (sym bits_are)
            ∙ top-row number width rest fits (omega (arith, begun.1)) (packed (take next ws) (take next ys))
            ∙ (λ j. sym more j * 2 ^ rest + sym left_is j)

-- ---- a cell more is read

abbrev pub Handed : List ℕ → List ℕ → List ℕ → ℕ → ℕ → ℕ → ℕ → Type 0
Handed ws cells ys number bits next read =
    Begun ws number bits next × (bits < 32) × (sum (take next ws) + bits ≡ 32 * read) × (next < length ws → bits < get_or ws next 0) × Unpacks ws ys (row_of (take read cells)) number bits next

pub handed-start : (ws cells ys : List ℕ) → Narrow ws → Handed ws cells ys 0 0 0 0
unfolding sum packed row_of
handed-start ws cells ys h = ((omega arith, omega arith, omega arith), omega arith, refl, (λ l. (h 0 l).0), ((λ k l. absurd (not-suc-le-zero l)), refl))

module _ (ws cells : List ℕ) (number bits next read cell : ℕ) (begun : Begun ws number bits next) (few : bits < 32) (small : cell < 2 ^ 32) where
  joined : (number * 2 ^ 32) % 2 ^ 64 + cell ≡ number * 2 ^ 32 + cell
  joined = below-shl number bits 32 cell begun.2 small (omega arith)

  pub read-begun : Begun ws ((number * 2 ^ 32) % 2 ^ 64 + cell) (bits + 32) next
  read-begun = (begun.0, omega arith, subst (λ (y : ℕ). y < 2 ^ (bits + 32)) (sym joined) (below-lt number bits 32 cell begun.2 small))

  pub read-unpacks : (ys : List ℕ) → read < length cells → cell ≡ get_or cells read 0 → Unpacks ws ys (row_of (take read cells)) number bits next → Unpacks ws ys (row_of (take (read + 1) cells)) ((number * 2 ^ 32) % 2 ^ 64 + cell) (bits + 32) next
  read-unpacks ys l e u =
      let front : ℕ = packed (take next ws) (take next ys) in (
        u.0,
        row-suc cells read l ∙ (λ j. u.1 j * 2 ^ 32 + sym e j) ∙ below_row number bits 32 cell begun.2 small front
            ∙ ap (λ (y : ℕ). front * 2 ^ (bits + 32) + y) (sym joined),
      )

-- what `hand_out` leaves are fewer bits than a cell has
module _ (ws cells : List ℕ) (narrow : Narrow ws) (inside : sum ws ≤ 32 * length cells) (fills : 32 * length cells < sum ws + 32) where
  pub left-few : (bits next read : ℕ) → next ≤ length ws → read ≤ length cells → sum (take next ws) + bits ≡ 32 * read → (next < length ws → bits < get_or ws next 0) → bits < 32
  left-few bits next read l r s h = ⊎_elim all some (eq-or-lt_of_le l)
    where
      all : next ≡ length ws → bits < 32
      all e = omega (arith, ap sum (take_all next ws (omega arith)))

      some : next < length ws → bits < 32
      some q = omega (arith, h q, (narrow next q).1)

  pub handed-done : (ys : List ℕ) (number bits next read : ℕ) → length ys ≡ length ws → read ≡ length cells → Handed ws cells ys number bits next read
      → ys ≡ unpacked ws (row_of cells / 2 ^ (32 * length cells - sum ws))
  handed-done ys number bits next read long e f =
      let n : next ≡ length ws = ⊎_elim (λ q. q) (λ q. absurd (more q)) (eq-or-lt_of_le f.0.0) in
      let ws-all : take next ws ≡ ws = take_all next ws (omega arith) in
      let ys-all : take next ys ≡ ys = take_all next ys (omega arith) in
      let b : 32 * length cells - sum ws ≡ bits = omega (arith, f.2, ap sum ws-all) in
      let row : row_of cells ≡ packed ws ys * 2 ^ bits + number =
      ap row_of (sym (take_all read cells (omega arith))) ∙ f.4.1 ∙ (λ j. packed (ws-all j) (ys-all j) * 2 ^ bits + number) in
      let top : row_of cells / 2 ^ (32 * length cells - sum ws) ≡ packed ws ys = (λ j. row j / 2 ^ b j) ∙ high (packed ws ys) bits f.0.2 in
      sym (ap (unpacked ws) top ∙ unpack-packed ws ys long ∙ trimmed-same ws ys long (λ i l. f.4.0 i (omega arith)))
    where
      more : next < length ws → ⊥
      more q = omega (arith, f.2, f.3 q, sum-at ws next q)
