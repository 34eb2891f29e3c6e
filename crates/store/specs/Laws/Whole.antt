-- Species 5: the element at a position is its cell, and is put as one. Assumes nothing.
use Rattle.std.specs.Prelude.{ℕ, ◌^◌, ◌<◌, ◌≡◌, List, get_or, set}
use Rattle.std.proofs.Math.Path.{ap}
use Rattle.std.proofs.Common.{◌∙◌}
use Rattle.packing.specs.Packing.{take_bits, put_bits}
use Rattle.packing.specs.Laws.Whole.{take_whole, put_whole}
use Rattle.placing.specs.declared.Segment.{Segment}
use Rattle.placing.specs.declared.Position.{Position}
use Rattle.placing.specs.Placing.{cell_of}
use Rattle.placing.specs.Laws.Whole.{whole_species, whole-width, whole-bit}
use Rattle.store.specs.Store.{element_at, put_element}

module _ (st : List ℕ) (g : Segment) (x : Position) (small : get_or st (cell_of whole_species g x).0 0 < 2 ^ 32) where
  pub whole-element : element_at st whole_species g x ≡ get_or st (cell_of whole_species g x).0 0
  unfolding element_at
  whole-element = (λ i. take_bits (whole-width i) (whole-bit x i) (get_or st (cell_of whole_species g x).0 0)) ∙ take_whole _ small

  pub whole-put : (n : ℕ) → n < 2 ^ 32 → put_element st whole_species g x n ≡ set st (cell_of whole_species g x).0 n
  unfolding put_element
  whole-put n l =
      ap (set st (cell_of whole_species g x).0) ((λ i. put_bits (whole-width i) (whole-bit x i) (get_or st (cell_of whole_species g x).0 0) n) ∙ put_whole _ n small l)
