-- A closed entry is all zero: of a row of 56 cells whose first is 0, the fields are closed where all cells are 0. Assumes nothing.
use Rattle.std.specs.Prelude.{ℕ, ◌+◌, ◌-◌, ◌≤◌, ◌<◌, ◌≡◌, true, List, eqb, length, get_or}
use Rattle.std.proofs.Math.Path.{sym}
use Rattle.std.proofs.Common.{ap, ◌∙◌, ⊎_elim, arith}
use borrow.Author.Tests.{eqb-true, eq-eqb}
use Rattle.combine.specs.Below.{all_below}
use Rattle.combine.specs.Laws.Below.{all-at, all-make, bool-ext}
use Rattle.combine.specs.Laws.Numbers.{le-or-lt}
use Rattle.combine.specs.Laws.Parts.{get_d_part}
use Rattle.combine.specs.Laws.Rows.{all-good, each_of}
use Rattle.placing.specs.Sizes.{most_held}
use Rattle.tables.specs.Layout.{opening_of}
use Rattle.tables.specs.Openings.{closedb}
use Rattle.sound_extents.specs.Slices.{all_cells}
use Rattle.sound_reading.specs.Cells.{value_cell, number-cell}

-- every cell of a closed row is in one of its fields
module _ (c : List ℕ) (first : get_or c 0 0 ≡ 0) where
  zero_row : ((k : ℕ) → k < 56 → get_or c k 0 ≡ 0) → closedb (opening_of c) ≡ true
  unfolding closedb opening_of
  zero_row z =
      sym
      (all-good _ (
        eq-eqb _ _ (z 1 (omega arith)),
        (
          eq-eqb _ _ (z 2 (omega arith)),
          (
            eq-eqb _ _ (z 3 (omega arith)),
            (
              all-make _ 8 (λ k h. eq-eqb _ _ (value_cell c k h ∙ z (4 + k) (omega arith))),
              (
                all-make _ 12 (λ k h. eq-eqb _ _ (get_d_part c 12 12 k h ∙ z (12 + k) (omega arith))),
                (
                  all-make _ most_held (λ k h. eq-eqb _ _ (number-cell c 24 k h ∙ z (24 + k) (omega arith))),
                  tt,
                ),
              ),
            ),
          ),
        ),
      ))

  here : (a k : ℕ) → k ≡ a → get_or c a 0 ≡ 0 → get_or c k 0 ≡ 0
  here a k e z = ap (λ (j : ℕ). get_or c j 0) e ∙ z

  -- n cells from a on are zero
  reach : (a n k : ℕ) → a ≤ k → k < a + n → ((j : ℕ) → j < n → get_or c (a + j) 0 ≡ 0) → get_or c k 0 ≡ 0
  reach a n k l u z = here (a + (k - a)) k (omega arith) (z (k - a) (omega arith))

  split : {P : Type 0} (k a : ℕ) → (k ≤ a → P) → (a < k → P) → P
  split k a f g = ⊎_elim f g (le-or-lt k a)

  row_zero : closedb (opening_of c) ≡ true → (k : ℕ) → k < 56 → get_or c k 0 ≡ 0
  unfolding closedb opening_of
  row_zero ok k h =
      let f = each_of _ ok in
      split k 0 (λ l. here 0 k (omega arith) first) (λ m₀.
      split k 1 (λ l. here 1 k (omega arith) (eqb-true _ _ f.0)) (λ m₁.
      split k 2 (λ l. here 2 k (omega arith) (eqb-true _ _ f.1.0)) (λ m₂.
      split k 3 (λ l. here 3 k (omega arith) (eqb-true _ _ f.1.1.0)) (λ m₃.
      split k 11 (λ l. reach 4 8 k (omega arith) (omega arith) (λ j r. sym (value_cell c j r) ∙ eqb-true _ _ (all-at _ 8 f.1.1.1.0 j r))) (λ m₄.
      split k 23 (λ l. reach 12 12 k (omega arith) (omega arith) (λ j r. sym (get_d_part c 12 12 j r) ∙ eqb-true _ _ (all-at _ 12 f.1.1.1.1.0 j r))) (λ m₅.
      reach 24 most_held k (omega arith) (omega arith) (λ j r. sym (number-cell c 24 j r) ∙ eqb-true _ _ (all-at _ most_held f.1.1.1.1.1.0 j r))))))))

  pub closed-row : length c ≡ 56 → all_cells (λ x. eqb x 0) c ≡ closedb (opening_of c)
  closed-row l =
      ap (λ (n : ℕ). all_below n (λ k. eqb (get_or c k 0) 0)) l
      ∙ bool-ext (all_below 56 (λ k. eqb (get_or c k 0) 0)) (closedb (opening_of c))
      (λ e. zero_row (λ k h. eqb-true (get_or c k 0) 0 (all-at _ 56 e k h)))
      (λ e. all-make _ 56 (λ k h. eq-eqb (get_or c k 0) 0 (row_zero e k h)))
