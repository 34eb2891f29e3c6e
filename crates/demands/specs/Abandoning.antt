-- Demand 3: an opening that is abandoned leaves no trace. "Demand 3 is stated over the histories of demand 2, never over a store that ignores
-- its calls." Assumes nothing.
use Rattle.std.specs.Prelude.{ℕ, ◌≡◌, Bool, true, false, not, ◌&&◌, ◌||◌, List, [], ◌∷◌, ◌++◌, map, T, eqb}
use Rattle.combine.specs.Verdict.{Said, done, refused, is_done}
use Rattle.rules.specs.Calls.{Way, Request, opens, closes, abandons, uses, fresh, load, Call, starts, asks, arranges, on, runs}
use Rattle.segments.specs.Free.{free_count}
use Rattle.cells.specs.Says.{house_of}
use Rattle.cells.specs.Outcomes.{Lent}
use Rattle.demands.specs.History.{outcome_on, after_call, view_on, told_all, final, those, Each}
use Rattle.demands.specs.Hearing.{Fate, remains, struck, left_fate, later_fate, fate_in, heard, answered_as}

-- ---- calls between an opening of user u by entry e and its abandonment

-- the call is the user's on the entry
abbrev pub is_on : ℕ → ℕ → Call → Bool
is_on u e (starts c) = false
is_on u e (asks q) = false
is_on u e (arranges q) = false
is_on u e (on v d r) = eqb u v && eqb e d
is_on u e (runs v d r) = eqb u v && eqb e d

abbrev pub ending : Request → Bool
ending (opens w) = false
ending (closes public) = true
ending abandons = true
ending (uses a) = false

-- the call ends the opening, if it is done
abbrev pub ends : ℕ → ℕ → Call → Bool
ends u e (starts c) = true
ends u e (asks q) = false
ends u e (arranges q) = false
ends u e (on v d r) = (eqb u v && eqb e d) && ending r
ends u e (runs v d r) = false

-- answered "no room" or "not now"
abbrev pub crowded : Said → Bool
crowded (done n) = false
crowded (refused n) = eqb n 9 || eqb n 14

-- the opening goes on; and a call that is not the user's on the entry is not answered 9 or 14
abbrev pub quiet : ℕ → ℕ → Call → Said → Bool
quiet u e c a = not (ends u e c && is_done a) && (is_on u e c || not (crowded a))

abbrev pub Quiet : ℕ → ℕ → List Call → Lent → Type 0
Quiet u e = Each (λ c x. T (quiet u e c (answered_as c x)))

-- a load that is done reads what cells freed segments were left with, and these may differ
abbrev pub is_load : Call → Bool
is_load (starts fresh) = false
is_load (starts (load img)) = true
is_load (asks q) = false
is_load (arranges q) = false
is_load (on v d r) = false
is_load (runs v d r) = false

abbrev pub NoLoad : List Call → Lent → Type 0
NoLoad = Each (λ c x. T (not (is_load c && is_done (outcome_on c x).answer)))

-- ---- what becomes of a call when the opening is struck out

-- it is not the user's on the entry
abbrev pub is_elsewhere : ℕ → ℕ → Call → Bool
is_elsewhere u e c = not (is_on u e c)

abbrev pub between_fate : ℕ → ℕ → Call → Fate
between_fate u e = fate_in (is_elsewhere u e) left_fate

abbrev pub strike : ℕ → ℕ → List Call → List Call
strike u e = those (is_elsewhere u e)

-- ---- a history in which an opening is abandoned

pub record Story : Type 0 where
  pub before : List Call
  pub user : ℕ
  pub entry : ℕ
  pub way : Way
  pub between : List Call
  pub later : List Call

abbrev pub opening_call : Story → Call
opening_call h = on h.user h.entry (opens h.way)

abbrev pub abandoning : Story → Call
abandoning h = on h.user h.entry abandons

abbrev pub whole : Story → List Call
whole h = h.before ++ opening_call h ∷ (h.between ++ abandoning h ∷ h.later)

abbrev pub rest : Story → List Call
rest h = h.before ++ (strike h.user h.entry h.between ++ h.later)

abbrev pub all_stay : List Call → List Fate
all_stay cs = map (λ c. remains) cs

abbrev pub whole_fates : Story → List Fate
whole_fates h = all_stay h.before ++ struck ∷ (map (between_fate h.user h.entry) h.between ++ struck ∷ map later_fate h.later)

abbrev pub rest_fates : Story → List Fate
rest_fates h = all_stay h.before ++ (map left_fate (strike h.user h.entry h.between) ++ map later_fate h.later)

-- the opening is done, it goes on till the abandonment, and the others are not crowded out by it
pub record Abandoned (h : Story) (x : Lent) : Type 0 where
  pub opened : T (is_done (outcome_on (opening_call h) (final h.before x)).answer)
  pub quietly : Quiet h.user h.entry h.between (after_call (opening_call h) (final h.before x))
  pub no_load : NoLoad h.later (final (h.before ++ opening_call h ∷ (h.between ++ abandoning h ∷ [])) x)

-- without the opening: "every remaining call gets the same answer, and permanent files, other openings and the number of free segments are
-- the same at the end"; of a saved image all but the segment numbers; document 02, P13: "Demand 3 excepts this count", a tidying's
pub record NoTrace (h : Story) (x : Lent) : Type 0 where
  pub same_answers : heard (whole_fates h) (told_all (whole h) x) ≡ heard (rest_fates h) (told_all (rest h) x)
  pub same_state : view_on (final (whole h) x) ≡ view_on (final (rest h) x)
  pub same_free : free_count (house_of (final (whole h) x).tables) ≡ free_count (house_of (final (rest h) x).tables)

abbrev pub Demand3 : Type 0
Demand3 = (h : Story) (x : Lent) → Abandoned h x → NoTrace h x
