-- Document 02, P11: "My neighbour's private business." What is to be proved for a landlord a. It stands beside its proof, so that wrong statements
-- are tried. Assumes nothing.
use Rattle.std.specs.Prelude.{ℕ, ◌≡◌, ◌≢◌, Bool, true, false, not, ◌&&◌, ◌||◌, cond, List, T, eqb, get_or}
use Rattle.std.proofs.Math.Option.{Option, none, some}
use Rattle.combine.specs.Verdict.{Said, done, refused, is_done}
use Rattle.placing.specs.Sizes.{entry_of, user_of}
use Rattle.rules.specs.Calls.{Request, opens, closes, abandons, uses, Call, starts, asks, arranges, on, runs}
use Rattle.rules.specs.Headings.{Filed, head_of, handle_of, passes}
use Rattle.rules.specs.House.{House}
use Rattle.segments.specs.Free.{SegmentHouse}
use Rattle.cells.specs.Says.{house_of}
use Rattle.cells.specs.Outcomes.{Lent}
use Rattle.model.specs.Step.{Report}
use Rattle.demands.specs.History.{outcome_on, after_call, those, Each}
use Rattle.demands.specs.Hearing.{left_fate, fate_in, heard_of, answered_as}
use Rattle.demands.specs.Private.{is_of}

-- ---- what the landlord hears

-- "A's answers and lists": what is told of each of his calls; "A's counts of free segments are excepted": the number of one that is done
abbrev pub heard_by : (landlord : ℕ) → List Call → Lent → List Report
heard_by a = heard_of (fate_in (is_of a) left_fate)

-- ---- what the others may not do

-- the record at the place is public
abbrev pub public_at : {C : Type 0} → List (Option (Filed C)) → (place : Option ℕ) → Bool
public_at rs none = false
public_at rs (some p) = passes (λ r. not r.private) (head_of (get_or rs p none))

-- entry i has a public file open
abbrev pub opens_public : {C B : Type 0} → House C B → (entry : ℕ) → Bool
opens_public h i = passes (λ x. public_at h.records x.place) (handle_of (get_or h.openings i none))

-- no user but the landlord has a public file open
abbrev pub NonePublic : {C B : Type 0} → (landlord : ℕ) → House C B → Type 0
NonePublic a h = (i : ℕ) → user_of i ≢ a → T (not (opens_public h i))

-- "At the start no other user has a public file open."
abbrev pub QuietStart : (landlord : ℕ) → Lent → Type 0
QuietStart a x = NonePublic a (house_of x.tables)

-- a request that is done at entry i and left h "opens a public file or closes a file as public"
abbrev pub asks_openly : {C B : Type 0} → Request → (entry : ℕ) → House C B → Bool
asks_openly (opens w) i h = opens_public h i
asks_openly (closes public) i h = public
asks_openly abandons i h = false
asks_openly (uses a) i h = false

-- so does a call; or it is "a fresh start or a load"
abbrev pub openly : {C B : Type 0} → Call → House C B → Bool
openly (starts c) h = true
openly (asks q) h = false
openly (arranges q) h = false
openly (on v d r) h = asks_openly r (entry_of v d) h
openly (runs v d r) h = false

-- ---- what may not happen to the landlord

-- 9, "no room", or 17, "no free place"
abbrev pub hinders : Said → Bool
hinders (done n) = false
hinders (refused n) = eqb n 9 || eqb n 17

-- "a call of A is answered, or a run stopped, by 9", or "answered 17"
abbrev pub hindered : Call → Lent → Bool
hindered c x = hinders (answered_as c x)

-- ---- the statement

-- the landlord's call is not hindered; another's is not done openly. By what hindrance is, and openness
abbrev pub Apart : (hindrance : Call → Lent → Bool) (openness : Call → SegmentHouse → Bool) (landlord : ℕ) → Call → Lent → Type 0
Apart hin op a c x = T (cond (is_of a c) (not (hin c x)) (not (is_done (outcome_on c x).answer && op c (house_of (after_call c x).tables))))

-- "two histories from one store with the same calls by A in the same order": "A's answers and lists are the same". By its premises
abbrev pub NeighboursBy : (hindrance : Call → Lent → Bool) (openness : Call → SegmentHouse → Bool) (start : ℕ → Lent → Type 0) → Type 0
NeighboursBy hin op start =
    (a : ℕ) (cs ds : List Call) (x : Lent) → those (is_of a) cs ≡ those (is_of a) ds → start a x → Each (Apart hin op a) cs x → Each (Apart hin op a) ds x
    → heard_by a cs x ≡ heard_by a ds x

abbrev pub Neighbours : Type 0
Neighbours = NeighboursBy hindered openly QuietStart
