-- What the fields of a record and of an opening say. Assumes nothing.
use Rattle.std.specs.Prelude.{ℕ, ◌-◌, Bool, cond, List, eqb, get_or}
use Rattle.placing.specs.Sizes.{Cells}
use Rattle.placing.specs.declared.Segment.{Segment}
use Rattle.placing.specs.Placing.{segment, position, held_of}
use Rattle.tables.specs.declared.Record.{Record}
use Rattle.tables.specs.declared.Opening.{Opening}
use Rattle.tables.specs.Layout.{record_at}

abbrev pub is_used : Record → Bool
is_used r = eqb r.used 1

abbrev pub is_open : Opening → Bool
is_open o = eqb o.opened 1

-- the value of a pointer, 0 where there is no such pointer
unfoldable pub value_of : Opening → (pointer : ℕ) → ℕ
value_of o p = (get_or o.pointers p (position 0)).0

-- the number of segments that a record and an opening hold
unfoldable pub held_by_record : Record → ℕ
held_by_record r = cond (eqb r.used 0) 0 (held_of r.species r.begin.0 r.end.0)

unfoldable pub held_by_opening : Opening → ℕ
held_by_opening o = cond (eqb o.opened 0) 0 (held_of o.species (value_of o 0) (value_of o 1))

-- a segment number of a list
abbrev pub number_at : (segments : List Segment) (slot : ℕ) → ℕ
number_at l k = (get_or l k (segment 0)).0

-- the record of an opening that has one
abbrev pub record_for : (tables : Cells) → Opening → Record
record_for t o = record_at t (o.place - 1)
