-- Document 02, P11, in practice: no call of a user changes, or is answered from, an element of a file that is another's and private. Assumes nothing.
use Rattle.std.specs.Prelude.{ℕ, suc, ◌+◌, ◌*◌, ◌<◌, ◌≡◌, ◌≢◌, Bool, false, not, cond, List, [], ◌∷◌, map, T, eqb, length, get_or}
use Rattle.std.proofs.Math.Option.{Option, none, some}
use Rattle.combine.specs.Lists.{is_in}
use Rattle.placing.specs.Sizes.{Cells, segment_cells, user_of}
use Rattle.rules.specs.Calls.{save, count, Call, starts, asks, arranges, on, runs}
use Rattle.rules.specs.Headings.{Open, filing, opening}
use Rattle.rules.specs.House.{house}
use Rattle.rules.specs.Readable.{may_read}
use Rattle.segments.specs.Free.{SegmentRecord, SegmentHouse, opening_segments}
use Rattle.cells.specs.Says.{house_of}
use Rattle.cells.specs.Outcomes.{Lent, lent}
use Rattle.model.specs.Model.{File, Body, body, Files, Model, model}
use Rattle.model.specs.Step.{Look, step, step_told}
use Rattle.demands.specs.History.{after_call, told_of, view_on}
use Rattle.demands.specs.Demands.{Sound}

-- the call is the user's: "operator's calls aren't A's"
abbrev pub is_of : (user : ℕ) → Call → Bool
is_of a (starts c) = false
is_of a (asks (save img)) = false
is_of a (asks (count u)) = eqb a u
is_of a (arranges q) = false
is_of a (on u e r) = eqb a u
is_of a (runs u e r) = eqb a u

-- ---- changes none

-- every file of which the user is not to know is afterwards as it was: place, heading and elements; and so is every opening of another
pub record LeavesOthers (user : ℕ) (before after : Files) : Type 0 where
  pub files : (p : ℕ) (f : File) → get_or before.records p none ≡ some f → T (not (may_read user f.head)) → get_or after.records p none ≡ some f
  pub openings : (i : ℕ) → user_of i ≢ user → get_or after.openings i none ≡ get_or before.openings i none

-- "a work opening's record is its user's own", of the user's openings
abbrev pub WorksOnOwn : (user : ℕ) → Files → Type 0
WorksOnOwn u h =
    (i p : ℕ) (x : Open Body) (f : File) → user_of i ≡ u → get_or h.openings i none ≡ some x → x.handle.place ≡ some p → T x.handle.permit
    → get_or h.records p none ≡ some f → f.head.owner ≡ u

-- on what users know
abbrev pub ChangesNoneKnown : Type 0
ChangesNoneKnown =
    (u : ℕ) (c : Call) (look : Look) (m : Model) → T (is_of u c) → WorksOnOwn u m.house → LeavesOthers u m.house (step look c m).after.house

-- on any cells
abbrev pub ChangesNone : Type 0
ChangesNone = (u : ℕ) (c : Call) (x : Lent) → T (is_of u c) → LeavesOthers u (view_on x).house (view_on (after_call c x)).house

-- ---- is answered from none

-- the file without its elements, if the user may not read it
abbrev pub blot_file : (user : ℕ) → Option File → Option File
blot_file u none = none
blot_file u (some f) = some (cond (may_read u f.head) f (filing f.head []))

-- the opening at entry i without its elements, if it is another's
abbrev pub blot_opening : (user entry : ℕ) → Option (Open Body) → Option (Open Body)
blot_opening u i none = none
blot_opening u i (some x) = some (cond (eqb (user_of i) u) x (opening x.handle (body [] x.content.shared)))

-- the entries from i on
abbrev pub blot_openings : (user entry : ℕ) → List (Option (Open Body)) → List (Option (Open Body))
blot_openings u i [] = []
blot_openings u i (x ∷ xs) = blot_opening u i x ∷ blot_openings u (suc i) xs

abbrev pub blotted : (user : ℕ) → Model → Model
blotted u m = model m.cells (house m.house.segments (map (blot_file u) m.house.records) (blot_openings u 0 m.house.openings))

-- on what users know: the same is told, and done, where these elements are blotted out
abbrev pub AnsweredFromNoneKnown : Type 0
AnsweredFromNoneKnown =
    (u : ℕ) (c : Call) (look : Look) (m : Model) → T (is_of u c)
    → (step_told look c (blotted u m) ≡ step_told look c m) × ((step look c (blotted u m)).after ≡ blotted u (step look c m).after)

-- two stores have the same cells in these segments
abbrev pub SameIn : (store other : Cells) (segments : List ℕ) → Type 0
SameIn s s' gs = (g k : ℕ) → T (is_in g gs) → k < segment_cells → get_or s' (g * segment_cells + k) 0 ≡ get_or s (g * segment_cells + k) 0

-- they have, in the segments of every file that the user may read, and of every opening of his own
pub record SameInSight (user : ℕ) (h : SegmentHouse) (s s' : Cells) : Type 0 where
  pub long : length s' ≡ length s
  pub files : (p : ℕ) (r : SegmentRecord) → get_or h.records p none ≡ some r → T (may_read user r.head) → SameIn s s' r.content
  pub openings : (i : ℕ) → user_of i ≡ user → SameIn s s' (opening_segments (get_or h.openings i none))

-- on any cells: the same is told, whatever the store holds elsewhere; and where the tables are sound, nothing of it comes to what the user may
-- read, or into his openings
abbrev pub AnsweredFromNone : Type 0
AnsweredFromNone =
    (u : ℕ) (c : Call) (x : Lent) (s : Cells) → T (is_of u c) → SameInSight u (house_of x.tables) x.store s
    → let y = lent s x.tables in
    (told_of c y ≡ told_of c x) × (Sound x → blotted u (view_on (after_call c y)) ≡ blotted u (view_on (after_call c x)))
