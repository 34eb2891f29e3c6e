-- An opening whose content changes, by value. Assumes nothing.
use Rattle.std.specs.Prelude.{ℕ, ◌+◌, ◌-◌, cond, List, [], ◌∷◌, ◌++◌, ltb, drop, set}
use Rattle.placing.specs.declared.Segment.{Segment}
use Rattle.placing.specs.Placing.{segment, position, held_of}
use Rattle.tables.specs.declared.Opening.{Opening}
use Rattle.tables.specs.Fields.{value_of}
use Rattle.tables.specs.Handles.{pointed}

-- with another list of segments; the rest stays
abbrev pub with_segments : Opening → List Segment → Opening
with_segments o l = record { opened = o.opened; place = o.place; permit = o.permit; species = o.species; pointers = o.pointers; name = o.name; segments = l }

-- place k of the list is segment g
abbrev pub with_segment : Opening → ℕ → Segment → Opening
with_segment o k g = with_segments o (set o.segments k g)

-- the first segment leaves the list: "Unused list places are zero"
abbrev pub shifted : Opening → Opening
shifted o = with_segments o (drop 1 o.segments ++ (segment 0 ∷ []))

-- the first element has left: "A file holds one segment for each stretch with at least one of its positions, and no other"
unfoldable pub first_left : Opening → Opening
first_left o =
    let b = value_of o 0 in
    let e = value_of o 1 in
    let o' = pointed o 0 (position (b + 1)) in
    cond (ltb (held_of o.species (b + 1) e) (held_of o.species b e)) (shifted o') o'

-- the last element has left
unfoldable pub last_left : Opening → Opening
last_left o =
    let b = value_of o 0 in
    let e = value_of o 1 in
    let o' = pointed o 1 (position (e - 1)) in
    cond (ltb (held_of o.species b (e - 1)) (held_of o.species b e)) (with_segment o' (held_of o.species b e - 1) (segment 0)) o'
