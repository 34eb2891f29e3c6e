-- What is to be proved of the calls on cells. Assumes nothing.
use Rattle.std.specs.Prelude.{ℕ, ◌*◌, ◌≤◌, ◌<◌, ◌≡◌, ◌↔◌, Bool, true, false, List, ◌∷◌, length, get_or, take}
use Rattle.combine.specs.Below.{count_below}
use Rattle.combine.specs.Verdict.{done, refused, is_done}
use Rattle.combine.specs.Outcome.{outcome_of}
use Rattle.placing.specs.Sizes.{greatest_user, segment_cells, openings_start, tables_length, lists}
use Rattle.rules.specs.Calls.{Start, Call, starts, asks, arranges, on, runs}
use Rattle.rules.specs.House.{closed_down}
use Rattle.segments.specs.Free.{is_free}
use Rattle.tables.specs.Layout.{segments_in, none_open}
use Rattle.tables.specs.Lists.{held_in, listed}
use Rattle.image.specs.Image.{served, image_length, imageb}
use Rattle.cells.specs.Says.{house_of}
use Rattle.cells.specs.Outcomes.{Lent, lent, sound_lent, lengthsb, free_out, load_out, saved, save_out}
use Rattle.model.specs.Model.{Model, model}
use Rattle.model.specs.Step.{Report, step, step_told}
use Rattle.demands.specs.History.{outcome_on, after_call, told_of, look_on, view_on, told_all, final, seen_all, model_told, model_final}

-- the tables of x are sound beside its store
abbrev pub Sound : Lent → Type 0
Sound x = sound_lent x.store x.tables ≡ true

-- ---- soundness and frames

-- "Every call leaves sound tables sound."
abbrev pub KeepsSound : Type 0
KeepsSound = (c : Call) (x : Lent) → Sound x → Sound (after_call c x)

-- a call that is done leaves sound tables, whatever they held
abbrev pub DoneIsSound : Type 0
DoneIsSound = (c : Call) (x : Lent) → is_done (outcome_on c x).answer ≡ true → Sound (after_call c x)

-- the lent slices keep their lengths
abbrev pub KeepsLengths : Type 0
KeepsLengths = (c : Call) (x : Lent) → (length (after_call c x).store ≡ length x.store) × (length (after_call c x).tables ≡ length x.tables)

-- "cells beyond are never touched"
abbrev pub KeepsBeyond : Type 0
KeepsBeyond = (c : Call) (x : Lent) → Sound x → (k : ℕ) → segment_cells * segments_in x.tables ≤ k → get_or (after_call c x).store k 0 ≡ get_or x.store k 0

-- ---- demand 2: the calls on cells are the calls on the state as its users know it, with the same answers

abbrev pub Refines : Call → Lent → Type 0
Refines c x = ◌≡◌ {A = Report × Model} (told_of c x, view_on (after_call c x)) (step_told (look_on x) c (view_on x), (step (look_on x) c (view_on x)).after)

abbrev pub Demand2 : Type 0
Demand2 = (c : Call) (x : Lent) → Sound x → Refines c x

-- "A fresh start and a load don't look at what the tables held, only at their length and the store's."
abbrev pub Demand2Start : Type 0
Demand2Start = (c : Start) (x : Lent) → length x.tables ≡ tables_length → Refines (starts c) x

-- on any other tables: "tables of wrong length or unsound, or store under 64 cells"
abbrev pub is_start : Call → Bool
is_start (starts c) = true
is_start (asks q) = false
is_start (arranges q) = false
is_start (on u e r) = false
is_start (runs u e r) = false

abbrev pub RefusesUnsound : Type 0
RefusesUnsound = (c : Call) (x : Lent) → is_start c ≡ false → sound_lent x.store x.tables ≡ false → outcome_on c x ≡ outcome_of (refused 20) x

abbrev pub RefusesLengths : Type 0
RefusesLengths = (c : Start) (x : Lent) → lengthsb x.store x.tables ≡ false → outcome_on (starts c) x ≡ outcome_of (refused 20) x

-- over histories
abbrev pub RefinesAll : List Call → Lent → Type 0
RefinesAll cs x = (told_all cs x ≡ model_told (seen_all cs x) (view_on x)) × (view_on (final cs x) ≡ model_final (seen_all cs x) (view_on x))

abbrev pub Demand2History : Type 0
Demand2History = (cs : List Call) (x : Lent) → Sound x → RefinesAll cs x

-- from any cells, a history that begins with a fresh start or a load that is done
abbrev pub Demand2FromStart : Type 0
Demand2FromStart = (c : Start) (cs : List Call) (x : Lent) → is_done (outcome_on (starts c) x).answer ≡ true → RefinesAll (starts c ∷ cs) x

-- ---- save and load

-- save then load: the same permanent files, and nothing open
abbrev pub SaveThenLoad : Type 0
SaveThenLoad =
    (x : Lent) (buffer tables : List ℕ) → Sound x → length buffer ≡ image_length served → length tables ≡ tables_length
    → let o = load_out x.store tables (save_out x.store x.tables buffer).after.image in
    let m = view_on x in
    (o ≡ outcome_of (done 0) (lent x.store (none_open (take openings_start x.tables)))) × (view_on o.after ≡ model m.cells (closed_down m.house))

-- the numbers of 32 bits
abbrev pub AreCells : List ℕ → Type 0
AreCells l = (k : ℕ) → get_or l k 0 < 4294967296

-- load then save: the same cells
abbrev pub LoadThenSave : Type 0
LoadThenSave =
    (x : Lent) (img buffer : List ℕ) → AreCells img → length x.tables ≡ tables_length → imageb served (length x.store) img ≡ true → length buffer ≡ image_length served
    → let y = (load_out x.store x.tables img).after in
    save_out y.store y.tables buffer ≡ outcome_of (done 0) (saved y.store y.tables img)

-- ---- the free count "equals the segments no list names"

abbrev pub Unnamed : List ℕ → ℕ → Type 0
Unnamed t g = (i k : ℕ) → i < lists → k < held_in t i → listed t i k ≡ g → ⊥

abbrev pub FreeCounted : Type 0
FreeCounted =
    (x : Lent) (u : ℕ) → Sound x → u ≤ greatest_user
    → (free_out x.store x.tables u ≡ outcome_of (done (count_below (segments_in x.tables) (is_free (house_of x.tables)))) x)
    × ((g : ℕ) → (is_free (house_of x.tables) g ≡ true) ↔ Unnamed x.tables g)
