-- What the cells of tables say, and how it is written there. Assumes nothing.
use Rattle.std.specs.Prelude.{ℕ, ◌-◌, cond, List, ◌++◌, map, length, take, replicate}
use Rattle.std.proofs.Math.Option.{Option, none, some}
use Rattle.placing.specs.Sizes.{Cells, entries, places, most_held}
use Rattle.combine.specs.Lists.{tab}
use Rattle.placing.specs.declared.Segment.{Segment}
use Rattle.placing.specs.Placing.{segment, position}
use Rattle.rules.specs.Headings.{filing, opening}
use Rattle.rules.specs.House.{house, Filing, kept, becomes, Change}
use Rattle.segments.specs.Free.{SegmentRecord, SegmentOpening, SegmentHouse}
use Rattle.tables.specs.declared.Record.{Record}
use Rattle.tables.specs.declared.Opening.{Opening}
use Rattle.tables.specs.Layout.{segment_number, segments_in, record_at, opening_at, put_record, put_opening, unused_record, closed_opening}
use Rattle.tables.specs.Handles.{bit, handle_in, heading_of, place_number}
use Rattle.tables.specs.Fields.{is_used, is_open, held_by_record, held_by_opening}

-- ---- from cells

-- with the segments that are held
abbrev pub record_in : Record → SegmentRecord
record_in r = filing (heading_of r) (take (held_by_record r) (map segment_number r.segments))

abbrev pub opening_in : Opening → SegmentOpening
opening_in o = opening (handle_in o) (take (held_by_opening o) (map segment_number o.segments))

unfoldable pub decoded_record : Record → Option SegmentRecord
decoded_record r = cond (is_used r) (some (record_in r)) none

unfoldable pub decoded_opening : Opening → Option SegmentOpening
decoded_opening o = cond (is_open o) (some (opening_in o)) none

unfoldable pub house_of : (tables : Cells) → SegmentHouse
house_of t = house (segments_in t) (tab places (λ p. decoded_record (record_at t p))) (tab entries (λ i. decoded_opening (opening_at t i)))

-- ---- to cells

-- "Unused list places are zero"
unfoldable pub in_places : (segments : List ℕ) → List Segment
in_places l = map segment (l ++ replicate (most_held - length l) 0)

unfoldable pub as_record : Option SegmentRecord → Record
as_record none = unused_record
as_record (some r) =
    let h = r.head in
    record {
      used = 1;
      name = h.name;
      owner = h.owner;
      private = bit h.private;
      species = h.species;
      begin = position h.begin;
      end = position h.end;
      segments = in_places r.content;
    }

unfoldable pub as_opening : Option SegmentOpening → Opening
as_opening none = closed_opening
as_opening (some x) =
    let h = x.handle in
    record {
      opened = 1;
      place = place_number h.place;
      permit = bit h.permit;
      species = h.species;
      pointers = map position h.pointers;
      name = h.name;
      segments = in_places x.content;
    }

-- a change at entry i: one record at most, and one opening, are written
abbrev pub filed_in : (tables : Cells) → Filing (List ℕ) → Cells
filed_in t kept = t
filed_in t (becomes p r) = put_record t p (as_record r)

unfoldable pub written : (tables : Cells) (entry : ℕ) → Change (List ℕ) (List ℕ) → Cells
written t i c = put_opening (filed_in t c.filing) i (as_opening c.entry)
