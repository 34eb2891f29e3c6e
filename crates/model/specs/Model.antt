-- The state as its users know it: files are lists of elements, and there are no segment numbers. Assumes nothing.
use Rattle.std.specs.Prelude.{ℕ, ◌+◌, ◌-◌, Bool, true, false, List, [], ltb, length, get_or, take, drop, replicate}
use Rattle.std.proofs.Math.Option.{Option, none, some}
use Rattle.combine.specs.Lists.{total, put}
use Rattle.placing.specs.Placing.{held_of}
use Rattle.rules.specs.Headings.{Handle, Filed, Open, value, holds, slot_in}
use Rattle.rules.specs.Effects.{Deed, stays, first_leaves, last_leaves, stores, Delivered, plain, element}
use Rattle.rules.specs.House.{House}
use Rattle.rules.specs.Levels.{Level}

-- "Permanent files are the same when place, owner, name, privacy, species, begin, end and elements are"
abbrev pub File : Type 0
File = Filed (List ℕ)

-- "openings, when user, entry, record, permit, name, species, begin, end, pointers, elements and the stretches shared with the record are":
-- for each held stretch, by rising stretch, whether it is shared
pub record Body : Type 0 where
  pub elements : List ℕ
  pub shared : List Bool

abbrev pub body : (elements : List ℕ) (shared : List Bool) → Body
body l f = record { elements = l; shared = f }

abbrev pub Files : Type 0
Files = House (List ℕ) Body

-- the number of store cells; files and openings
pub record Model : Type 0 where
  pub cells : ℕ
  pub house : Files

abbrev pub model : (cells : ℕ) → Files → Model
model n h = record { cells = n; house = h }

-- ---- the number of free segments

abbrev pub held_by : Option File → ℕ
held_by none = 0
held_by (some r) = held_of r.head.species r.head.begin r.head.end

abbrev pub own_flag : Bool → ℕ
own_flag true = 0
own_flag false = 1

-- the segments that only the opening lists
abbrev pub owned_by : Option (Open Body) → ℕ
owned_by none = 0
owned_by (some x) = total own_flag x.content.shared

unfoldable pub free : Files → ℕ
free h = h.segments - (total held_by h.records + total owned_by h.openings)

-- ---- the level

-- a stretch is dropped if no position is left in it; a stretch that is stored into is the opening's own; elements are what was written: "No silent
-- cutting" (document 02, P5)
abbrev pub body_after : Open Body → (afterwards : Handle) → Deed → Body
body_after x n stays = x.content
body_after x n first_leaves = body (drop 1 x.content.elements) (drop (length x.content.shared - holds n) x.content.shared)
body_after x n last_leaves = body (take (length x.content.elements - 1) x.content.elements) (take (holds n) x.content.shared)
body_after x n (stores v k) = body (put x.content.elements (v - value x.handle 0) k) (put x.content.shared (slot_in x.handle v) false)

abbrev pub elements_of_file : Option File → List ℕ
elements_of_file none = []
elements_of_file (some r) = r.content

abbrev pub delivered_by_model : Open Body → Delivered → ℕ
delivered_by_model x (plain n) = n
delivered_by_model x (element v) = get_or x.content.elements (v - value x.handle 0) 0

-- to store takes a segment where the stretch has none, or the record's
abbrev pub model_level : Level (List ℕ) Body
model_level =
    record {
      room = λ h. ltb 0 (free h);
      takes = λ h x v. get_or x.content.shared (slot_in x.handle v) true;
      empty = body [] [];
      shown = λ n r. body (elements_of_file r) (replicate (holds n) true);
      filed_as = λ b. b.elements;
      after = λ h x n d. body_after x n d;
      says = delivered_by_model;
    }
