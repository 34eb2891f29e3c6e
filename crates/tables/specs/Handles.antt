-- What the fields of a record and of an opening say to a rule: heading and handle. Assumes nothing.
use Rattle.std.specs.Prelude.{ℕ, suc, ◌-◌, Bool, cond, map, eqb, set}
use Rattle.std.proofs.Math.Option.{Option, none, some}
use Rattle.placing.specs.declared.Position.{Position}
use Rattle.placing.specs.Placing.{position}
use Rattle.rules.specs.Headings.{Heading, Handle}
use Rattle.rules.specs.Effects.{delivered_number, Use}
use Rattle.tables.specs.declared.Record.{Record}
use Rattle.tables.specs.declared.Opening.{Opening}
use Rattle.tables.specs.Layout.{position_number}

abbrev pub heading_of : Record → Heading
heading_of r = record { owner = r.owner; name = r.name; private = eqb r.private 1; species = r.species; begin = r.begin.0; end = r.end.0 }

-- the record's place and 1, or 0 for none
abbrev pub place_of : ℕ → Option ℕ
place_of n = cond (eqb n 0) none (some (n - 1))

abbrev pub handle_in : Opening → Handle
handle_in o = record { place = place_of o.place; permit = eqb o.permit 1; name = o.name; species = o.species; pointers = map position_number o.pointers }

-- ---- and back

abbrev pub bit : Bool → ℕ
bit b = cond b 1 0

abbrev pub place_number : Option ℕ → ℕ
place_number none = 0
place_number (some p) = suc p

-- ---- an opening with other pointers or another name; the rest stays

-- pointer k at the value v
abbrev pub pointed : Opening → ℕ → Position → Opening
pointed o k v = record { opened = o.opened; place = o.place; permit = o.permit; species = o.species; pointers = set o.pointers k v; name = o.name; segments = o.segments }

-- with the pointers and the name of a handle
abbrev pub handled : Opening → Handle → Opening
handled o h = record { opened = o.opened; place = o.place; permit = o.permit; species = o.species; pointers = map position h.pointers; name = h.name; segments = o.segments }

-- a use that leaves the content: the number of its answer, and the opening with the handle afterwards
abbrev pub carried : Opening → Use → ℕ × Opening
carried o u = (delivered_number u.told, handled o u.handle)
