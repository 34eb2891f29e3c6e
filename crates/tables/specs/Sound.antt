-- "Sound tables". Assumes nothing.
use Rattle.std.specs.Prelude.{ℕ, ◌*◌, Bool, [], ◌∷◌, eqb, leb, length}
use Rattle.combine.specs.Rows.{all_of}
use Rattle.placing.specs.Sizes.{Cells, segment_cells, most_segments, tables_length, lists}
use Rattle.tables.specs.Layout.{segments_in}
use Rattle.tables.specs.Records.{recordsb}
use Rattle.tables.specs.Openings.{openingsb}
use Rattle.tables.specs.Lists.{distinctb}

-- "the number of segments is 1 to 1,024 and fits the store": "A number fits a store of at least 64 times as many cells"
unfoldable pub numberb : (segments cells : ℕ) → Bool
numberb n cells = all_of (leb 1 n ∷ leb n most_segments ∷ leb (segment_cells * n) cells ∷ [])

-- the tables t are sound beside a store of so many cells, and that has 64 or more: "the records are sound as below; each opening ..;
-- segments in all lists are distinct ..; the number of segments is 1 to 1,024 and fits the store"
unfoldable pub soundb : (cells : ℕ) (tables : Cells) → Bool
soundb cells t =
    all_of
    (eqb (length t) tables_length
    ∷ recordsb t (segments_in t)
    ∷ openingsb t
    ∷ distinctb t lists
    ∷ numberb (segments_in t) cells
    ∷ [])
