-- The call `write`: what a plan says of the verdict, and that it can be carried out. Assumes nothing.
use Rattle.std.specs.Prelude.{ℕ, ◌+◌, ◌≤◌, ◌<◌, ◌≡◌, Bool, false, ◌&&◌, not, cond, List, leb, ltb, eqb, get_or, Result, Ok, Err}
use Rattle.combine.specs.Verdict.{Verdict, refused, done, refuse◌when◌else◌}
use Rattle.answers.specs.declared.Refusal.{Refusal}
use Rattle.answers.specs.declared.Refusal.TheVariants.{Room}
use Rattle.answers.specs.Said.{refusal_number}
use Rattle.placing.specs.declared.Segment.{Segment}
use Rattle.placing.specs.Sizes.{most_held, greatest_end}
use Rattle.placing.specs.Placing.{segment, held_of, slot_of}
use Rattle.store.specs.Store.{zeroed, copied}
use Rattle.rules.specs.Headings.{moved}
use Rattle.rules.specs.Effects.{first_leaves, stores, plain, Use, does}
use Rattle.rules.specs.Access.{write_rule}
use Rattle.segments.specs.Free.{lowest_free, has_room}
use Rattle.segments.specs.Deeds.{takes_at, target, prepared}
use Rattle.tables.specs.declared.Opening.{Opening}
use Rattle.tables.specs.Layout.{segments_in}
use Rattle.tables.specs.Fields.{value_of}
use Rattle.tables.specs.Handles.{handle_in}
use Rattle.cells.specs.Says.{opening_in, house_of}
use Rattle.opening_laws.specs.Shared.{shares_number}
use Rattle.write_plan.specs.declared.Plan.{Plan}
use Rattle.write_plan.specs.declared.Plan.TheVariants.{Drop, Put, Copy, Zero}

-- the segment that is taken, or "no room: a segment needed, none free"
unfoldable pub room_of : List ℕ → Result Segment Refusal
room_of t = cond (has_room (house_of t)) (Ok (segment (lowest_free (house_of t)))) (Err Room)

-- the position of pointer p has a place in the list, or the next behind it
pub record Seats (o : Opening) (p : ℕ) : Type 0 where
  pub known : p < 8
  pub low : value_of o 0 ≤ value_of o p
  pub high : value_of o p < greatest_end
  pub listed : slot_of o.species (value_of o 0) (value_of o p) ≤ held_of o.species (value_of o 0) (value_of o 1)
  pub small : slot_of o.species (value_of o 0) (value_of o p) < most_held

-- ---- the verdict: "for a pointer call 4, 5, 6, 7, 10, 8, 9", with 19 before and 23 between, and its last parts

-- the write of the bits n through pointer p, of a number of its kind that is too wide or not
unfoldable pub write_verdict : List ℕ → Opening → ℕ → (signed wide : Bool) → ℕ → Verdict Use
write_verdict t o p k w n = write_rule p k w n (takes_at (house_of t).records (opening_in o)) (has_room (house_of t)) (handle_in o)

-- "no room: a segment needed, none free" is 9
unfoldable pub seat_verdict : List ℕ → Opening → ℕ → ℕ → Verdict Use
seat_verdict t o p n =
    let v = value_of o p in
    refuse 9 when takes_at (house_of t).records (opening_in o) v && not (has_room (house_of t)) else
    done (does (plain 0) (moved (handle_in o) p (v + 1)) (stores v n))

-- "Through 1: append": 23, 10 and 8 come before
unfoldable pub append_verdict : List ℕ → Opening → (wide : Bool) → ℕ → Verdict Use
append_verdict t o w n =
    let e = value_of o 1 in
    refuse 23 when w else
    refuse 10 when leb greatest_end e else
    refuse 8 when ltb most_held (held_of o.species (value_of o 0) (e + 1)) else
    seat_verdict t o 1 n

-- through another pointer: 7 and 23 come before, and through 0 the first element is dropped
unfoldable pub inside_verdict : List ℕ → Opening → ℕ → (wide : Bool) → ℕ → Verdict Use
inside_verdict t o p w n =
    let v = value_of o p in
    refuse 7 when leb (value_of o 1) v else
    refuse 23 when w else
    cond (eqb p 0) (done (does (plain 0) (moved (handle_in o) p (v + 1)) first_leaves)) (seat_verdict t o p n)

-- ---- a plan

-- the element goes to segment g, which is at place k of the list then
pub record Stores (t : List ℕ) (o : Opening) (p : ℕ) (verdict : ℕ → Verdict Use) (k : ℕ) (g : Segment) : Type 0 where
  pub seats : Seats o p
  pub place : k ≡ slot_of o.species (value_of o 0) (value_of o p)
  pub which : g ≡ segment (target (house_of t) (opening_in o) (value_of o p))
  pub range : g.0 < segments_in t
  pub told : (n : ℕ) → verdict n ≡ done (does (plain 0) (moved (handle_in o) p (value_of o p + 1)) (stores (value_of o p) n))

-- the store's cells before the element is put
abbrev pub prepared_for : List ℕ → Opening → ℕ → List ℕ → List ℕ
prepared_for t o p s = prepared s (house_of t) (opening_in o) (value_of o p)

pub record Drops (o : Opening) (p : ℕ) (verdict : ℕ → Verdict Use) : Type 0 where
  pub first : p ≡ 0
  pub some : value_of o 0 < value_of o 1
  pub told : (n : ℕ) → verdict n ≡ done (does (plain 0) (moved (handle_in o) 0 (value_of o 0 + 1)) first_leaves)

-- the opening holds segment g, and its record has it not
pub record Puts (t : List ℕ) (o : Opening) (p : ℕ) (verdict : ℕ → Verdict Use) (g : Segment) : Type 0 where
  pub into : Stores t o p verdict (slot_of o.species (value_of o 0) (value_of o p)) g
  pub there : get_or o.segments (slot_of o.species (value_of o 0) (value_of o p)) (segment 0) ≡ g
  pub held : slot_of o.species (value_of o 0) (value_of o p) < held_of o.species (value_of o 0) (value_of o 1)
  pub alone : shares_number t o g.0 ≡ false
  pub cells : (s : List ℕ) → prepared_for t o p s ≡ s

pub record Copies (t : List ℕ) (o : Opening) (p : ℕ) (verdict : ℕ → Verdict Use) (k : ℕ) (f g : Segment) : Type 0 where
  pub into : Stores t o p verdict k g
  pub source : f.0 < segments_in t
  pub cells : (s : List ℕ) → prepared_for t o p s ≡ copied s f g

pub record Zeroes (t : List ℕ) (o : Opening) (p : ℕ) (verdict : ℕ → Verdict Use) (k : ℕ) (g : Segment) : Type 0 where
  pub into : Stores t o p verdict k g
  pub cells : (s : List ℕ) → prepared_for t o p s ≡ zeroed s g

-- what is to be done, or why nothing is
abbrev pub Decision : Type 0
Decision = Result Plan Refusal

abbrev pub Says : List ℕ → Opening → ℕ → (ℕ → Verdict Use) → Decision → Type 0
Says t o p verdict (Err why) = (n : ℕ) → verdict n ≡ refused (refusal_number why)
Says t o p verdict (Ok Drop) = Drops o p verdict
Says t o p verdict (Ok (Put g)) = Puts t o p verdict g
Says t o p verdict (Ok (Copy k f g)) = Copies t o p verdict k f g
Says t o p verdict (Ok (Zero k g)) = Zeroes t o p verdict k g

pub record Planned (t : List ℕ) (o : Opening) (p : ℕ) (verdict : ℕ → Verdict Use) (decision : Decision) : Type 0 where
  pub says : Says t o p verdict decision
