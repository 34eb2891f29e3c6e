-- Records and openings, whatever their contents are: C in a record, B in an opening. Assumes nothing.
use Rattle.std.specs.Prelude.{ℕ, Bool, ◌&&◌, List, map, eqb, set, replicate}
use Rattle.std.proofs.Math.Option.{Option, none}
use Rattle.combine.specs.Lists.{any}
use Rattle.placing.specs.Sizes.{entries, places, fresh_segments}
use Rattle.rules.specs.Headings.{Handle, Filed, Open, is_some, handle_of, passes}
use Rattle.rules.specs.Effects.{Others}

-- the number of segments, the record at each of 64 places, the opening at each of 32 entries
pub record House (C B : Type 0) : Type 0 where
  pub segments : ℕ
  pub records : List (Option (Filed C))
  pub openings : List (Option (Open B))

module _ {C B : Type 0} where
  abbrev pub house : (segments : ℕ) (records : List (Option (Filed C))) (openings : List (Option (Open B))) → House C B
  house n rs xs = record { segments = n; records = rs; openings = xs }

  -- nothing is open
  abbrev pub closed_down : House C B → House C B
  closed_down h = house h.segments h.records (replicate entries none)

  -- something is open, to be worked on or only read
  abbrev pub has_open : House C B → Bool
  has_open h = any is_some h.openings

  -- after a fresh start over so many cells
  abbrev pub fresh_house : (cells : ℕ) → House C B
  fresh_house cells = house (fresh_segments cells) (replicate places none) (replicate entries none)

-- ---- what is seen of the others

-- the opening's record is at place p; and it has the work permit
abbrev pub opens_place : (place : ℕ) → Handle → Bool
opens_place p h = passes (eqb p) h.place

abbrev pub works_place : (place : ℕ) → Handle → Bool
works_place p h = h.permit && opens_place p h

abbrev pub others_of : {B : Type 0} → (room : Bool) (openings : List (Option (Open B))) → Others
others_of room xs =
    record {
      room = room;
      opened = λ p. any (passes (opens_place p)) (map handle_of xs);
      worked = λ p. any (passes (works_place p)) (map handle_of xs);
    }

-- ---- what a request changes: a record, and its entry

-- the catalogue stays; or a place gets another record, or none
pub data Filing (C : Type 0) : Type 0 where
  kept : Filing C
  becomes : (place : ℕ) (filed : Option (Filed C)) → Filing C

abbrev pub refiled : {C : Type 0} → List (Option (Filed C)) → Filing C → List (Option (Filed C))
refiled rs kept = rs
refiled rs (becomes p r) = set rs p r

pub record Change (C B : Type 0) : Type 0 where
  pub answer : ℕ
  pub filing : Filing C
  pub entry : Option (Open B)

module _ {C B : Type 0} where
  abbrev pub change : (answer : ℕ) → Filing C → (entry : Option (Open B)) → Change C B
  change n f x = record { answer = n; filing = f; entry = x }

  -- the change at entry i
  abbrev pub changed : House C B → (entry : ℕ) → Change C B → House C B
  changed h i c = house h.segments (refiled h.records c.filing) (set h.openings i c.entry)
