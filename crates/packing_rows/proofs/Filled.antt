-- `rows::pack`: the first `full` cells are filled, and fewer bits than a cell has wait. Assumes nothing.
use mathlib.Core.Path.{◌≡◌, refl, sym, ap, subst, ◌∙◌}
use mathlib.Core.List.{List}
use Prim.Native.Nat.{ℕ, ◌+◌, ◌-◌, ◌*◌, ◌/◌, ◌%◌, ◌^◌, ◌≤◌, ◌<◌}
use native.Mathlib.Nat.{mod-lt, le_refl}
use native.Mathlib.Omega.{arith}
use lib.ListN.{length, take, set, length-set}
use lib.Pow.{pow_pos}
use lib.Seq.{take_all, take-set-le, get_or-set_same}
use Rattle.packing.specs.Packing.{row_of, cells_of, sum, packed}
use Rattle.packing_rows.specs.Waiting.{Narrow, Begun, Packs}
use Rattle.packing_rows.specs.Cells.{Cells, row-cells}
use Rattle.packing_rows.specs.Longer.{row-suc, sum-whole}
use Rattle.packing_rows.proofs.Turns.{top_lt, rest-is, top-row}

abbrev pub Filled : List ℕ → List ℕ → List ℕ → ℕ → ℕ → ℕ → ℕ → Type 0
Filled ws xs cells number bits next full =
    Begun ws number bits next × (bits < 32) × (sum (take next ws) ≡ 32 * full + bits) × Packs ws xs (row_of (take full cells)) number bits next

pub filled-start : (ws xs cells : List ℕ) → Filled ws xs cells 0 0 0 0
unfolding sum packed row_of
filled-start ws xs cells = ((omega arith, omega arith, omega arith), omega arith, refl, refl)

-- the bits that wait fill a cell: number, bits and next are as `gather` hands them back
module _ (ws : List ℕ) (number bits next : ℕ) (begun : Begun ws number bits next) (full-cell : 32 ≤ bits) where
  abbrev rest : ℕ
  rest = bits - 32

  bits_are : 32 + rest ≡ bits
  bits_are = omega arith

  fits : number < 2 ^ (32 + rest)
  fits = subst (λ (y : ℕ). number < 2 ^ y) (sym bits_are) begun.2

  pub cell-lt : number / 2 ^ rest < 2 ^ 32
  cell-lt = top_lt number 32 rest fits (omega (arith, begun.1))

  pub filled-turn : (xs cells : List ℕ) (full bits₀ next₀ : ℕ) → full < length cells → sum (take next ws) + bits₀ ≡ sum (take next₀ ws) + bits → sum (take next₀ ws) ≡ 32 * full + bits₀ → Packs ws xs (row_of (take full cells)) number bits next
      → Filled ws xs (set cells full (number / 2 ^ rest)) (number - (number / 2 ^ rest * 2 ^ rest) % 2 ^ 64) rest next (full + 1)
  filled-turn xs cells full bits₀ next₀ l s s₀ p =
      let cell : ℕ = number / 2 ^ rest in
      let e : number - (cell * 2 ^ rest) % 2 ^ 64 ≡ number % 2 ^ rest = rest-is number 32 rest fits (omega (arith, begun.1)) in
      let row : row_of (take (full + 1) (set cells full cell)) ≡ row_of (take full cells) * 2 ^ 32 + cell =
      row-suc (set cells full cell) full (omega (arith, length-set cells full cell))
      ∙ (λ j. row_of (take-set-le full cells full cell (le_refl full) j) * 2 ^ 32 + get_or-set_same cells full cell 0 l j) in (
        (begun.0, omega (arith, begun.1), subst (λ (y : ℕ). y < 2 ^ rest) (sym e) (mod-lt number (pow_pos rest))),
        omega (arith, begun.1),
        omega arith,
        p ∙ ap (λ (y : ℕ). row_of (take full cells) * 2 ^ y + number) (sym bits_are) ∙ top-row number 32 rest fits (omega (arith, begun.1)) (row_of (take full cells))
            ∙ (λ j. sym row j * 2 ^ rest + sym e j),
      )

module _ (ws xs : List ℕ) (narrow : Narrow ws) (long : length xs ≡ length ws) where
  pub filled-done : (cells : List ℕ) (number bits next full : ℕ) → Cells cells → sum ws ≡ 32 * length cells → full ≡ length cells → Filled ws xs cells number bits next full → cells ≡ cells_of (length cells) (packed ws xs)
  filled-done cells number bits next full h s e f =
      let n : next ≡ length ws = sum-whole ws narrow next f.0.0 (omega (arith, f.2)) in
      let ws-all : take next ws ≡ ws = take_all next ws (omega arith) in
      let xs-all : take next xs ≡ xs = take_all next xs (omega arith) in
      let b : bits ≡ 0 = omega (arith, f.2, ap sum ws-all) in
      let v : number < 2 ^ 0 = subst (λ (y : ℕ). number < 2 ^ y) b f.0.2 in
      let row : packed ws xs ≡ row_of cells =
      (λ j. packed (sym ws-all j) (sym xs-all j)) ∙ f.3 ∙ (λ j. row_of (take_all full cells (omega arith) j) * 2 ^ b j + number) ∙ omega arith in
      sym (row-cells cells h) ∙ ap (cells_of (length cells)) (sym row)
