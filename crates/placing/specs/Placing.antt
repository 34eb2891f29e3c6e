-- "Where an element lies": s is a species, x a position. "A file has begin b and end e, b <= e; its positions are b to e-1." Assumes
-- nothing.
use Rattle.std.specs.Prelude.{ℕ, ◌+◌, ◌-◌, ◌*◌, ◌/◌, ◌%◌, cond, ltb}
use Rattle.placing.specs.declared.Segment.{Segment}
use Rattle.placing.specs.declared.Position.{Position}
use Rattle.placing.specs.declared.Cell.{Cell}
use Rattle.placing.specs.Sizes.{segment_cells, width_of, elements_of}

abbrev pub segment : ℕ → Segment
segment n = record { 0 = n }

abbrev pub position : ℕ → Position
position n = record { 0 = n }

-- "Position x lies in the file's stretch floor((x-1)/E) at offset o = (x-1) mod E."
unfoldable pub stretch_of : (species x : ℕ) → ℕ
stretch_of s x = (x - 1) / elements_of s

unfoldable pub offset_of : (species x : ℕ) → ℕ
offset_of s x = (x - 1) % elements_of s

-- "With width w, it is in cell floor(o·w/32) of that stretch's segment, its top bit (o·w mod 32) bits below the cell's top bit";
-- "a segment is 4 blocks, 64 cells"
unfoldable pub cell_of : (species : ℕ) → Segment → Position → Cell
cell_of s g x = record { 0 = g.0 * segment_cells + offset_of s x.0 * width_of s / 32 }

unfoldable pub bit_of : (species : ℕ) → Position → ℕ
bit_of s x = offset_of s x.0 * width_of s % 32

-- "A file holds one segment for each stretch with at least one of its positions, and no other; an empty file holds none."
unfoldable pub held_of : (species begin end : ℕ) → ℕ
held_of s b e = cond (ltb b e) (stretch_of s (e - 1) - stretch_of s b + 1) 0

-- "The claim is the number of positions from b to the end of the last held stretch, 0 for an empty file."
unfoldable pub claim_of : (species begin end : ℕ) → ℕ
claim_of s b e = cond (ltb b e) ((stretch_of s (e - 1) + 1) * elements_of s + 1 - b) 0

-- the place of x's stretch in the list of the file's segments, by rising stretch
unfoldable pub slot_of : (species begin x : ℕ) → ℕ
slot_of s b x = stretch_of s x - stretch_of s b
