-- What the cells of store and tables are to their users. Assumes nothing.
use Rattle.std.specs.Prelude.{ℕ, cond, List, map, length}
use Rattle.std.proofs.Math.Option.{Option, none, some}
use Rattle.placing.specs.Sizes.{Cells}
use Rattle.combine.specs.Lists.{is_in}
use Rattle.store.specs.Store.{elements_in}
use Rattle.rules.specs.Headings.{Open, filing, opening, value}
use Rattle.rules.specs.House.{house}
use Rattle.segments.specs.Free.{SegmentRecord, SegmentOpening, SegmentHouse, place_segments}
use Rattle.image.specs.Image.{served, imageb, tables_from}
use Rattle.cells.specs.Says.{house_of}
use Rattle.model.specs.Model.{File, Body, body, Files, Model, model}

-- ---- of segments: s is the store's cells

abbrev pub view_place : (store : Cells) → Option SegmentRecord → Option File
view_place s none = none
view_place s (some r) = some (filing r.head (elements_in s r.content r.head.species r.head.begin r.head.end))

-- a stretch is shared if its segment is the record's
abbrev pub view_opening : (store : Cells) (records : List (Option SegmentRecord)) → SegmentOpening → Open Body
view_opening s rs x =
    opening x.handle
    (body (elements_in s x.content x.handle.species (value x.handle 0) (value x.handle 1)) (map (λ g. is_in g (place_segments rs x.handle.place)) x.content))

abbrev pub view_entry : (store : Cells) (records : List (Option SegmentRecord)) → Option SegmentOpening → Option (Open Body)
view_entry s rs none = none
view_entry s rs (some x) = some (view_opening s rs x)

abbrev pub view_house : (store : Cells) → SegmentHouse → Files
view_house s h = house h.segments (map (view_place s) h.records) (map (view_entry s h.records) h.openings)

-- ---- of cells

unfoldable pub view : (store tables : Cells) → Model
view s t = model (length s) (view_house s (house_of t))

-- the files that an image holds over the store s, none where it is not sound
unfoldable pub files_in : (store image : Cells) → Option Files
files_in s img = cond (imageb served (length s) img) (some (view_house s (house_of (tables_from served img)))) none
