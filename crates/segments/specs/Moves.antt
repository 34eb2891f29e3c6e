-- Document 02, P13: segments move. Moves are pairs from and to in one list; the numbers of each pair change places. Assumes nothing.
use Rattle.std.specs.Prelude.{ℕ, ◌*◌, Bool, not, ◌&&◌, cond, List, [], ◌∷◌, map, eqb, ltb, leb}
use Rattle.std.proofs.Math.Option.{Option, none, some}
use Rattle.combine.specs.Below.{count_below, picked}
use Rattle.combine.specs.Lists.{paired}
use Rattle.placing.specs.Sizes.{Cells, segment_cells}
use Rattle.placing.specs.Placing.{segment}
use Rattle.rules.specs.Headings.{filing}
use Rattle.store.specs.Store.{copied}
use Rattle.segments.specs.Free.{SegmentRecord, SegmentHouse, is_free}

-- ---- moves carried out

-- the number that a segment has afterwards
abbrev pub exchange : (moves : List ℕ) (segment : ℕ) → ℕ
exchange [] g = g
exchange (from ∷ []) g = g
exchange (from ∷ to ∷ l) g = cond (eqb g from) to (cond (eqb g to) from (exchange l g))

-- the cells of each from are copied to its to
abbrev pub moved_cells : (store : Cells) (moves : List ℕ) → Cells
moved_cells s [] = s
moved_cells s (from ∷ []) = s
moved_cells s (from ∷ to ∷ l) = moved_cells (copied s (segment from) (segment to)) l

-- a record with other numbers
abbrev pub renumbered_record : (ℕ → ℕ) → Option SegmentRecord → Option SegmentRecord
renumbered_record f none = none
renumbered_record f (some r) = some (filing r.head (map f r.content))

-- ---- the moves of a tidying

-- listed, of the segments that there are
unfoldable pub is_listed : SegmentHouse → (segment : ℕ) → Bool
is_listed h g = ltb g h.segments && not (is_free h g)

-- "the H listed ones"
unfoldable pub listed_count : SegmentHouse → ℕ
listed_count h = count_below h.segments (is_listed h)

-- "Listed segments numbered H or above"
abbrev pub is_high : SegmentHouse → (segment : ℕ) → Bool
is_high h g = is_listed h g && leb (listed_count h) g

-- ", in rising order, go to the free ones below H, in rising order; no other moves"
unfoldable pub tidy_moves : SegmentHouse → List ℕ
tidy_moves h = paired (picked h.segments (is_high h)) (picked (listed_count h) (is_free h))

-- "the count of cells copied: 64 for each listed segment numbered H or above"
unfoldable pub tidy_count : SegmentHouse → ℕ
tidy_count h = segment_cells * count_below h.segments (is_high h)
