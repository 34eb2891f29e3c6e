-- Records and openings with the numbers of their segments, by rising stretch; and which segments are free. Assumes nothing.
use Rattle.std.specs.Prelude.{ℕ, Bool, not, ◌||◌, List, [], ltb, get_or}
use Rattle.std.proofs.Math.Option.{Option, none, some}
use Rattle.combine.specs.Below.{count_below}
use Rattle.combine.specs.First.{first_below}
use Rattle.combine.specs.Lists.{any, is_in}
use Rattle.rules.specs.Headings.{Filed, Open}
use Rattle.rules.specs.House.{House}

abbrev pub SegmentRecord : Type 0
SegmentRecord = Filed (List ℕ)

abbrev pub SegmentOpening : Type 0
SegmentOpening = Open (List ℕ)

abbrev pub SegmentHouse : Type 0
SegmentHouse = House (List ℕ) (List ℕ)

abbrev pub record_segments : Option SegmentRecord → List ℕ
record_segments none = []
record_segments (some r) = r.content

abbrev pub opening_segments : Option SegmentOpening → List ℕ
opening_segments none = []
opening_segments (some x) = x.content

-- the segments of an opening's record
abbrev pub place_segments : (records : List (Option SegmentRecord)) (place : Option ℕ) → List ℕ
place_segments rs none = []
place_segments rs (some p) = record_segments (get_or rs p none)

-- "A segment is free if no catalogue record and no opening lists it"
unfoldable pub is_free : SegmentHouse → (segment : ℕ) → Bool
is_free h g = not (any (λ r. is_in g (record_segments r)) h.records || any (λ x. is_in g (opening_segments x)) h.openings)

-- "the number of free segments"
unfoldable pub free_count : SegmentHouse → ℕ
free_count h = count_below h.segments (is_free h)

-- "A taken segment is always the lowest-numbered free one": the number of segments, where none is free
unfoldable pub lowest_free : SegmentHouse → ℕ
lowest_free h = first_below h.segments (is_free h)

abbrev pub has_room : SegmentHouse → Bool
has_room h = ltb (lowest_free h) h.segments
