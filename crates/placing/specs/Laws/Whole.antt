-- What the placing rules come to at species 5, "where an element is a cell" (document 02, P3). Assumes nothing.
use Rattle.std.specs.Prelude.{ℕ, ◌+◌, ◌-◌, ◌*◌, ◌%◌, ◌≡◌, refl}
use Rattle.std.proofs.Common.{arith}
use Rattle.placing.specs.Sizes.{segment_cells, width_of, elements_of}
use Rattle.placing.specs.declared.Segment.{Segment}
use Rattle.placing.specs.declared.Position.{Position}
use Rattle.placing.specs.Placing.{offset_of, cell_of, bit_of}

abbrev pub whole_species : ℕ
whole_species = 5

pub whole-width : width_of whole_species ≡ 32
unfolding width_of
whole-width = refl

-- its top bit is the cell's
pub whole-bit : (x : Position) → bit_of whole_species x ≡ 0
unfolding bit_of width_of
whole-bit x = omega arith

-- and its offset the cell's place in the segment
pub whole-cell : (g : Segment) (x : Position) → (cell_of whole_species g x).0 ≡ g.0 * segment_cells + (x.0 - 1) % segment_cells
unfolding cell_of offset_of width_of elements_of
whole-cell g x = omega arith
