-- Where records and openings lie in the cells t of the tables: cell 0 is the number of segments, then come the records by place, then the
-- openings by entry. Assumes nothing.
use Rattle.std.specs.Prelude.{ℕ, ◌+◌, ◌-◌, ◌*◌, [], ◌∷◌, ◌++◌, map, get_or, replicate}
use Rattle.std.proofs.Math.Seq.{paste}
use Rattle.placing.specs.Sizes.{Cells, most_held, name_symbols, all_pointers, record_length, opening_length, records_start, openings_start, tables_length}
use Rattle.combine.specs.Lists.{part}
use Rattle.placing.specs.declared.Segment.{Segment}
use Rattle.placing.specs.declared.Position.{Position}
use Rattle.placing.specs.Placing.{segment, position}
use Rattle.tables.specs.declared.Record.{Record}
use Rattle.tables.specs.declared.Opening.{Opening}

abbrev pub segment_number : Segment → ℕ
segment_number g = g.0

abbrev pub position_number : Position → ℕ
position_number x = x.0

abbrev pub record_base : (place : ℕ) → ℕ
record_base p = records_start + record_length * p

abbrev pub opening_base : (entry : ℕ) → ℕ
opening_base i = openings_start + opening_length * i

abbrev pub segments_in : (tables : Cells) → ℕ
segments_in t = get_or t 0 0

-- nothing is there, and nothing is open
unfoldable pub fresh_tables : (segments : ℕ) → Cells
fresh_tables n = n ∷ replicate (tables_length - 1) 0

-- the number of segments and the records, and nothing is open
abbrev pub none_open : (front : Cells) → Cells
none_open front = front ++ replicate (tables_length - openings_start) 0

-- ---- a record of 50 numbers, in the image's order: "used 1, name 12 x 6, owner 3, private 1, species 3, begin 24, end 24, then 32
-- segment numbers"

unfoldable pub record_of : (row : Cells) → Record
record_of c =
    record {
      used = get_or c 0 0;
      name = part c 1 name_symbols;
      owner = get_or c 13 0;
      private = get_or c 14 0;
      species = get_or c 15 0;
      begin = position (get_or c 16 0);
      end = position (get_or c 17 0);
      segments = map segment (part c 18 most_held);
    }

unfoldable pub record_cells : Record → Cells
record_cells r =
    r.used ∷ (r.name ++ (r.owner ∷ r.private ∷ r.species ∷ r.begin.0 ∷ r.end.0 ∷ map segment_number r.segments))

unfoldable pub record_at : (tables : Cells) (place : ℕ) → Record
record_at t p = record_of (part t (record_base p) record_length)

unfoldable pub put_record : (tables : Cells) (place : ℕ) → Record → Cells
put_record t p r = paste t (record_base p) (record_cells r) record_length

-- "an unused record is all zero"
unfoldable pub unused_record : Record
unused_record = record { used = 0; name = replicate name_symbols 0; owner = 0; private = 0; species = 0; begin = position 0; end = position 0; segments = replicate most_held (segment 0) }

-- ---- an opening of 56 numbers

unfoldable pub opening_of : (row : Cells) → Opening
opening_of c =
    record {
      opened = get_or c 0 0;
      place = get_or c 1 0;
      permit = get_or c 2 0;
      species = get_or c 3 0;
      pointers = map position (part c 4 all_pointers);
      name = part c 12 name_symbols;
      segments = map segment (part c 24 most_held);
    }

unfoldable pub opening_cells : Opening → Cells
opening_cells o =
    (o.opened ∷ o.place ∷ o.permit ∷ o.species ∷ []) ++ (map position_number o.pointers ++ (o.name ++ map segment_number o.segments))

unfoldable pub opening_at : (tables : Cells) (entry : ℕ) → Opening
opening_at t i = opening_of (part t (opening_base i) opening_length)

unfoldable pub put_opening : (tables : Cells) (entry : ℕ) → Opening → Cells
put_opening t i o = paste t (opening_base i) (opening_cells o) opening_length

-- a closed entry is all zero too
unfoldable pub closed_opening : Opening
closed_opening = record { opened = 0; place = 0; permit = 0; species = 0; pointers = replicate all_pointers (position 0); name = replicate name_symbols 0; segments = replicate most_held (segment 0) }
