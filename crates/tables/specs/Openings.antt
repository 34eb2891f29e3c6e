-- When the opening at entry i of the cells t is sound, beside the records; entry i is user i / 4's. The rules stand in document 01's order.
-- Assumes nothing.
use Rattle.std.specs.Prelude.{ℕ, ◌+◌, ◌-◌, Bool, true, not, ◌||◌, cond, [], ◌∷◌, eqb, leb, get_or}
use Rattle.combine.specs.Below.{all_below}
use Rattle.combine.specs.Rows.{all_of}
use Rattle.combine.specs.Lists.{same}
use Rattle.placing.specs.Sizes.{Cells, entries, user_of, places, most_held, greatest_end, name_symbols, all_pointers}
use Rattle.placing.specs.Placing.{held_of}
use Rattle.names.specs.Names.{opening_nameb}
use Rattle.tables.specs.declared.Record.{Record}
use Rattle.tables.specs.declared.Opening.{Opening}
use Rattle.tables.specs.Layout.{segments_in, opening_at}
use Rattle.tables.specs.Fields.{is_used, is_open, value_of, number_at, record_for}
use Rattle.tables.specs.Records.{extentb, listb}

-- "each opening names one existing record, or none and then has the work permit"
unfoldable pub linkb : (tables : Cells) → Opening → Bool
linkb t o = cond (eqb o.place 0) (eqb o.permit 1) (is_used (record_for t o))

-- "a read opening's record is public or its user's own, and the opening has that record's name, species, begin, end and segments"
unfoldable pub readb : (entry : ℕ) → Opening → Record → Bool
readb i o r =
    all_of
    ((eqb r.private 0 || eqb r.owner (user_of i))
    ∷ same o.name r.name
    ∷ eqb o.species r.species
    ∷ eqb (value_of o 0) r.begin.0
    ∷ eqb (value_of o 1) r.end.0
    ∷ all_below most_held (λ k. eqb (number_at o.segments k) (number_at r.segments k))
    ∷ [])

-- "a work opening's record is its user's own, of the same species, and has no other opening"
unfoldable pub workb : (tables : Cells) (entry : ℕ) → Opening → Record → Bool
workb t i o r =
    all_of
    (eqb r.owner (user_of i)
    ∷ eqb r.species o.species
    ∷ all_below entries (λ j. eqb j i || not (eqb (opening_at t j).place o.place))
    ∷ [])

unfoldable pub beside_recordb : (tables : Cells) (entry : ℕ) → Opening → Bool
beside_recordb t i o = cond (eqb o.place 0) true (cond (eqb o.permit 0) (readb i o (record_for t o)) (workb t i o (record_for t o)))

-- "the values of pointers 2 to 7, where they exist, are 1 to the greatest end value": the work pointer always exists
unfoldable pub pointersb : Opening → Bool
pointersb o = all_of (leb 1 (value_of o 2) ∷ all_below (all_pointers - 2) (λ k. leb (value_of o (2 + k)) greatest_end) ∷ [])

-- "its species, begin, end and number of held segments are as for records; the values of pointers ..; all places and segment numbers are in
-- range"
unfoldable pub openb : (tables : Cells) (entry : ℕ) → Opening → Bool
openb t i o =
    all_of
    (is_open o
    ∷ leb o.permit 1
    ∷ linkb t o
    ∷ beside_recordb t i o
    ∷ opening_nameb o.name
    ∷ extentb o.species (value_of o 0) (value_of o 1)
    ∷ pointersb o
    ∷ leb o.place places
    ∷ listb (segments_in t) (held_of o.species (value_of o 0) (value_of o 1)) o.segments
    ∷ [])

-- a closed entry is all zero
unfoldable pub closedb : Opening → Bool
closedb o =
    all_of
    (eqb o.place 0
    ∷ eqb o.permit 0
    ∷ eqb o.species 0
    ∷ all_below all_pointers (λ k. eqb (value_of o k) 0)
    ∷ all_below name_symbols (λ k. eqb (get_or o.name k 0) 0)
    ∷ all_below most_held (λ k. eqb (number_at o.segments k) 0)
    ∷ [])

unfoldable pub openingb : (tables : Cells) (entry : ℕ) → Bool
openingb t i =
    let o = opening_at t i in
    cond (eqb o.opened 0) (closedb o) (openb t i o)

unfoldable pub openingsb : (tables : Cells) → Bool
openingsb t = all_below entries (openingb t)
