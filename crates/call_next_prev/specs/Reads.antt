-- The calls `next` and `prev`: what they deliver, and the opening after them. Assumes nothing.
use Rattle.std.specs.Prelude.{ℕ, ◌+◌, ◌-◌, ◌≤◌, ◌<◌, ◌≡◌, Bool, true, false, not, ◌&&◌, cond, List, eqb, get_or, Result, Ok, Err}
use Rattle.combine.specs.Verdict.{Verdict, refused, done}
use Rattle.combine.specs.Outcome.{Outcome, outcome_of}
use Rattle.answers.specs.declared.Refusal.{Refusal}
use Rattle.answers.specs.Said.{refusal_number}
use Rattle.placing.specs.declared.Segment.{Segment}
use Rattle.placing.specs.Placing.{segment, position, slot_of}
use Rattle.store.specs.Store.{element_at}
use Rattle.rules.specs.Calls.{Act, next, prev, next_signed, prev_signed}
use Rattle.rules.specs.Headings.{Handle, moved}
use Rattle.rules.specs.Effects.{Deed, stays, first_leaves, last_leaves, element, Use, does}
use Rattle.rules.specs.Access.{next_rule, prev_rule}
use Rattle.tables.specs.declared.Opening.{Opening}
use Rattle.tables.specs.Layout.{put_opening}
use Rattle.tables.specs.Fields.{value_of}
use Rattle.tables.specs.Handles.{handle_in, pointed}
use Rattle.cells.specs.Outcomes.{Lent, lent}
use Rattle.opening_laws.specs.Deeded.{first_left, last_left}
use Rattle.call_next_prev.specs.declared.Direction.{Direction}
use Rattle.call_next_prev.specs.declared.Direction.TheVariants.{Forward, Backward}
use Rattle.call_next_prev.specs.declared.Reading.{Reading}

-- document 02, P5: species 6 "has its own write and next and prev that take and give a signed number"
abbrev pub next_of : (signed : Bool) (pointer : ℕ) → Act
next_of true p = next_signed p
next_of false p = next p

abbrev pub prev_of : (signed : Bool) (pointer : ℕ) → Act
prev_of true p = prev_signed p
prev_of false p = prev p

-- the segment of position x
abbrev pub segment_for : Opening → ℕ → Segment
segment_for o x = get_or o.segments (slot_of o.species (value_of o 0) x) (segment 0)

-- "next through 0 and prev through 1 need the work permit": q is the pointer that needs it
abbrev pub lacks_permit : ℕ → ℕ → ℕ → Bool
lacks_permit p q permit = eqb p q && not (eqb permit 1)

-- "Through 0 the element leaves the file."
unfoldable pub next_left : Opening → ℕ → Opening
next_left o p = cond (eqb p 0) (first_left o) (pointed o p (position (value_of o p + 1)))

-- "Through 1 the element leaves the file."
unfoldable pub prev_left : Opening → ℕ → Opening
prev_left o p = cond (eqb p 1) (last_left o) (pointed o p (position (value_of o p - 1)))

-- ---- the two directions

abbrev pub act_of : Direction → (signed : Bool) (pointer : ℕ) → Act
act_of Forward k p = next_of k p
act_of Backward k p = prev_of k p

abbrev pub rule_of : Direction → (signed : Bool) (pointer : ℕ) → Handle → Verdict Use
rule_of Forward k p h = next_rule k p h
rule_of Backward k p h = prev_rule k p h

-- the pointer through which the element leaves the file, what then leaves, and the opening without it
abbrev pub edge_of : Direction → ℕ
edge_of Forward = 0
edge_of Backward = 1

abbrev pub leaves_of : Direction → Deed
leaves_of Forward = first_leaves
leaves_of Backward = last_leaves

abbrev pub edge_left : Direction → Opening → Opening
edge_left Forward o = first_left o
edge_left Backward o = last_left o

abbrev pub left_by : Direction → Opening → ℕ → Opening
left_by Forward o p = next_left o p
left_by Backward o p = prev_left o p

-- where the pointer is before and after the element at x is delivered
abbrev pub from_of : Direction → ℕ → ℕ
from_of Forward x = x
from_of Backward x = x + 1

abbrev pub to_of : Direction → ℕ → ℕ
to_of Forward x = x + 1
to_of Backward x = x

-- the reading's position is one of the file's, and lies in its segment
pub record Lies (o : Opening) (r : Reading) : Type 0 where
  pub low : value_of o 0 ≤ r.position.0
  pub high : r.position.0 < value_of o 1
  pub which : r.segment ≡ segment_for o r.position.0

-- the reading's element is delivered, and pointer p of the opening is at v then
pub record Delivers (o : Opening) (p v : ℕ) (d : Deed) (verdict : Verdict Use) (r : Reading) : Type 0 where
  pub known : p < 8
  pub lies : Lies o r
  pub told : verdict ≡ done (does (element r.position.0) (moved (handle_in o) p v) d)

-- what a reading says of the verdict; k says that the call is a signed one
abbrev pub Said : Direction → Opening → (signed : Bool) (pointer : ℕ) → Result Reading Refusal → Type 0
Said d o k p (Err why) = rule_of d k p (handle_in o) ≡ refused (refusal_number why)
Said d o k p (Ok r) = (value_of o p ≡ from_of d r.position.0) × Delivers o p (to_of d r.position.0) (cond (eqb p (edge_of d)) (leaves_of d) stays) (rule_of d k p (handle_in o)) r

pub record ReadPlan (d : Direction) (o : Opening) (signed : Bool) (p : ℕ) (r : Result Reading Refusal) : Type 0 where
  pub plan : Said d o signed p r

abbrev pub NextSaid : Opening → (signed : Bool) (pointer : ℕ) → Result Reading Refusal → Type 0
NextSaid o k p r = Said Forward o k p r

abbrev pub PrevSaid : Opening → (signed : Bool) (pointer : ℕ) → Result Reading Refusal → Type 0
PrevSaid o k p r = Said Backward o k p r

abbrev pub NextPlan : Opening → (signed : Bool) (pointer : ℕ) → Result Reading Refusal → Type 0
NextPlan o k p r = ReadPlan Forward o k p r

abbrev pub PrevPlan : Opening → (signed : Bool) (pointer : ℕ) → Result Reading Refusal → Type 0
PrevPlan o k p r = ReadPlan Backward o k p r

-- the reading's element is the answer, and the opening at entry i is n then
unfoldable pub delivered : List ℕ → List ℕ → ℕ → ℕ → Opening → Reading → Outcome Lent
delivered s t i species n r = outcome_of (done (element_at s species r.segment r.position)) (lent s (put_opening t i n))
