-- What is heard of the calls of a history, where two histories are set beside each other. Assumes nothing.
use Rattle.std.specs.Prelude.{Bool, true, false, ◌||◌, cond, List, [], ◌∷◌, ◌++◌, map, eqb}
use Rattle.combine.specs.Verdict.{Said, refused, is_done}
use Rattle.rules.specs.Calls.{save, count, Call, starts, asks, arranges, on, runs}
use Rattle.cells.specs.Outcomes.{Lent, call_run}
use Rattle.model.specs.Step.{Report}
use Rattle.demands.specs.History.{outcome_on, told_all}

-- what becomes of a call: its answer stays; it counts segments, and where it is done its number may differ; it is struck out itself
pub data Fate : Type 0 where
  remains counts struck : Fate

-- it counts the free segments
abbrev pub is_count : Call → Bool
is_count (starts c) = false
is_count (asks (save img)) = false
is_count (asks (count u)) = true
is_count (arranges q) = false
is_count (on v d r) = false
is_count (runs v d r) = false

-- it counts what is copied: "since segment numbers may differ in the struck history"
abbrev pub is_arranging : Call → Bool
is_arranging (starts c) = false
is_arranging (asks q) = false
is_arranging (arranges q) = true
is_arranging (on v d r) = false
is_arranging (runs v d r) = false

-- of a call in two histories that need not have as many segments free
abbrev pub left_fate : Call → Fate
left_fate c = cond (is_count c || is_arranging c) counts remains

-- of one in two histories that have as many free, which may be others
abbrev pub later_fate : Call → Fate
later_fate c = cond (is_arranging c) counts remains

-- what does not pass is struck out
abbrev pub fate_in : (Call → Bool) → (Call → Fate) → Call → Fate
fate_in f g c = cond (f c) (g c) struck

-- what is heard of one call
abbrev pub hear : Fate → Report → List Report
hear remains a = a ∷ []
hear counts a = cond (is_done a.answer) [] (a ∷ [])
hear struck a = []

-- what is told of the calls that stay, in order: of the counts only the refused ones
abbrev pub heard : List Fate → List Report → List Report
heard [] l = []
heard (f ∷ fs) [] = []
heard (f ∷ fs) (a ∷ l) = hear f a ++ heard fs l

abbrev pub heard_of : (Call → Fate) → List Call → Lent → List Report
heard_of f cs x = heard (map f cs) (told_all cs x)

-- a call's answer, but of a run that is stopped the refusal that stops it: "a run stopped by 9 counts as answered "no room""
abbrev pub answered_as : Call → Lent → Said
answered_as c x =
    let n = (call_run c x.store x.tables).stop in
    cond (eqb n 0) (outcome_on c x).answer (refused n)
