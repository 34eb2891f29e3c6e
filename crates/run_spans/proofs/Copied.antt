-- Cells that are copied, as the code's steps give their premises: i is the index of the first. Assumes nothing.
use Prim.Native.Nat.{ℕ, ◌+◌, ◌-◌, ◌≤◌}
use mathlib.Core.Path.{◌≡◌, ap, ◌∙◌}
use mathlib.Core.List.{List}
use native.Mathlib.Omega.{arith}
use borrow.Rule.Slice.PartMut.{put_mid}
use lib.ListN.{length, take, drop}
use lib.Seq.{paste}
use Rattle.combine.specs.Lists.{part}
use Rattle.combine.specs.Laws.Parts.{length_part}
use Rattle.combine.specs.Laws.Between.{part-between, put-between, put-all-between}
use Rattle.placing.specs.declared.Segment.{Segment}
use Rattle.placing.specs.declared.Position.{Position}
use Rattle.placing.specs.declared.Cell.{Cell}
use Rattle.placing.specs.Placing.{cell_of}
use Rattle.placing.specs.Laws.Whole.{whole_species}

module _ (g : Segment) (x : Position) (cell : Cell) (i : ℕ) (ec : cell ≡ cell_of whole_species g x) (ei : i ≡ cell.0) (n : ℕ) where
  index_is : i ≡ (cell_of whole_species g x).0
  index_is = ei ∙ ap (λ (c : Cell). c.0) ec

  pub cells-within : (m : ℕ) → (cell_of whole_species g x).0 + n ≤ m → i + n ≤ m
  cells-within m h = omega (arith, index_is, h)

  pub cells-put : (st l ys : List ℕ) → ys ≡ take (n - 0) (drop 0 l) → put_mid i (i + n - i) st ys ≡ paste st (cell_of whole_species g x).0 l n
  cells-put st l ys e =
      let whole : n - 0 ≡ n = omega arith in
      put-between st l i n (e ∙ ap (λ (k : ℕ). take k l) whole) ∙ ap (λ (k : ℕ). paste st k l n) index_is

  pub cells-taken : (st l ys : List ℕ) (from : ℕ) → (cell_of whole_species g x).0 + n ≤ length st → ys ≡ take (i + n - i) (drop i st)
      → put_mid from (from + n - from) l ys ≡ paste l from (part st (cell_of whole_species g x).0 n) n
  cells-taken st l ys from h e =
      put-all-between l (part st (cell_of whole_species g x).0 n) from n (e ∙ part-between st i n ∙ ap (λ (k : ℕ). part st k n) index_is) (length_part st (cell_of whole_species g x).0 n h)
