-- The cell, the width and the bit that the placing rules answer, as the functions on an element use them. Assumes
-- nothing.
use Prim.Native.Nat.{ℕ, ◌+◌, ◌*◌, ◌^◌, ◌≤◌, ◌<◌}
use mathlib.Core.Path.{◌≡◌, sym, ap, ◌∙◌}
use mathlib.Core.List.{List}
use native.Mathlib.Omega.{arith}
use lib.ListN.{get_or, set}
use Rattle.placing.specs.declared.Segment.{Segment}
use Rattle.placing.specs.declared.Position.{Position}
use Rattle.placing.specs.declared.Cell.{Cell}
use Rattle.placing.specs.Sizes.{greatest_species, segment_cells, width_of}
use Rattle.placing.specs.Placing.{cell_of, bit_of}
use Rattle.placing.specs.Laws.Sized.{sized, bit-fits, cell_in}
use Rattle.placing.specs.Laws.Whole.{whole_species}
use Rattle.store.specs.Store.{element_at, put_element}
use Rattle.store.specs.Laws.Whole.{whole-element, whole-put}

module _ (s : ℕ) (h : s ≤ greatest_species) where
  -- the index is within the segment
  pub in_segment : (g : Segment) (x : Position) (cell : Cell) (i : ℕ) → cell ≡ cell_of s g x → i ≡ cell.0 → i < g.0 * segment_cells + segment_cells
  in_segment g x cell i ec ei = omega (arith, ap (λ (c : Cell). c.0) ec, (cell_in s h g x).1)

  -- what taking and putting bits asks
  pub in_cell : (x : Position) (width at : ℕ) → width ≡ width_of s → at ≡ bit_of s x → (1 ≤ width) × (at + width ≤ 32)
  in_cell x width at ew ea = (omega (arith, (sized s h).positive), omega (arith, bit-fits s h x))

-- ---- species 5: i is the index of the cell that is the element, k is the species, and a cell has 32 bits
module _ (st : List ℕ) (g : Segment) (x : Position) (i : ℕ) (ei : i ≡ (cell_of whole_species g x).0) (k : ℕ) (ek : k ≡ whole_species) (small : (j : ℕ) → get_or st j 0 < 2 ^ 32) where
  pub whole-read : get_or st i 0 ≡ element_at st k g x
  whole-read = ap (λ (j : ℕ). get_or st j 0) ei ∙ sym (whole-element st g x (small _)) ∙ ap (λ (j : ℕ). element_at st j g x) (sym ek)

  pub whole-written : (n : ℕ) → n < 2 ^ 32 → set st i n ≡ put_element st k g x n
  whole-written n l = ap (λ (j : ℕ). set st j n) ei ∙ sym (whole-put st g x (small _) n l) ∙ ap (λ (j : ℕ). put_element st j g x n) (sym ek)
