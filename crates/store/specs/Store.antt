-- "The store is a lent slice of 32-bit cells": st is these cells, s a species, g a segment. Assumes nothing.
use Rattle.std.specs.Prelude.{ℕ, ◌+◌, ◌-◌, ◌*◌, List, get_or, set, drop, replicate}
use Rattle.std.proofs.Math.Seq.{paste}
use Rattle.combine.specs.Lists.{tab}
use Rattle.placing.specs.declared.Segment.{Segment}
use Rattle.placing.specs.declared.Position.{Position}
use Rattle.placing.specs.Sizes.{Cells, segment_cells, width_of}
use Rattle.placing.specs.Placing.{segment, position, cell_of, bit_of, slot_of}
use Rattle.packing.specs.Packing.{take_bits, put_bits}

-- the element at position x, whose stretch is in segment g; and the store with it replaced
unfoldable pub element_at : (store : Cells) (species : ℕ) → Segment → Position → ℕ
element_at st s g x = take_bits (width_of s) (bit_of s x) (get_or st (cell_of s g x).0 0)

unfoldable pub put_element : (store : Cells) (species : ℕ) → Segment → Position → (number : ℕ) → Cells
put_element st s g x n = set st (cell_of s g x).0 (put_bits (width_of s) (bit_of s x) (get_or st (cell_of s g x).0 0) n)

-- the store with the 64 cells of g zero, and with those of f in g
unfoldable pub zeroed : (store : Cells) → Segment → Cells
zeroed st g = paste st (g.0 * segment_cells) (replicate segment_cells 0) segment_cells

unfoldable pub copied : (store : Cells) (source target : Segment) → Cells
copied st f g = paste st (g.0 * segment_cells) (drop (f.0 * segment_cells) st) segment_cells

-- the segment of position x, in the list of the segment numbers of a file that begins at b
unfoldable pub segment_of : (segments : List ℕ) (species begin x : ℕ) → ℕ
segment_of gs s b x = get_or gs (slot_of s b x) 0

-- the elements of a file, positions b to e - 1
unfoldable pub elements_in : (store : Cells) (segments : List ℕ) (species begin end : ℕ) → List ℕ
elements_in st gs s b e = tab (e - b) (λ i. element_at st s (segment (segment_of gs s b (b + i))) (position (b + i)))
