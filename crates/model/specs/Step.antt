-- Every call, on the state as its users know it. Assumes nothing.
use Rattle.std.specs.Prelude.{ℕ, true, cond, eqb, leb, length, get_or}
use Rattle.std.proofs.Math.Option.{Option, none, some}
use Rattle.combine.specs.Verdict.{Said, done, is_done, on_done}
use Rattle.combine.specs.Outcome.{Outcome, outcome_of, settle}
use Rattle.combine.specs.Run.{Ran, run_over, admitted}
use Rattle.placing.specs.Sizes.{Cells, least_store, entry_of}
use Rattle.image.specs.Image.{served, image_length}
use Rattle.rules.specs.Calls.{Request, Start, fresh, load, Question, save, count, Arranging, tidy, Run, Call, starts, asks, arranges, on, runs}
use Rattle.rules.specs.Headings.{Open, is_some}
use Rattle.rules.specs.Effects.{Effect}
use Rattle.rules.specs.Gates.{user_gate, entry_gate, start_gate, image_gate, still_gate}
use Rattle.rules.specs.House.{closed_down, has_open, fresh_house, changed}
use Rattle.rules.specs.Levels.{perform, ruled, or_blank}
use Rattle.rules.specs.Runs.{requests_of, admission, run_answer, RunTold, run_told, no_run}
use Rattle.model.specs.Model.{Body, Files, Model, model, free, model_level}

abbrev pub perform_on_model : Model → (entry : ℕ) → Open Body → Effect → ℕ × Model
perform_on_model m i x f =
    let c = perform model_level m.house x f in
    (c.answer, model m.cells (changed m.house i c))

unfoldable pub request_on_model : Request → (user entry : ℕ) → Model → Outcome Model
request_on_model r u e m =
    let x = get_or m.house.openings (entry_of u e) none in
    settle m (entry_gate true u e (on_done (perform_on_model m (entry_of u e) (or_blank model_level x)) (ruled model_level r u m.house x)))

unfoldable pub run_on_model : Run → (user entry : ℕ) → Model → Ran Model
run_on_model r u e m = admitted m (admission true r u e m.house) (run_over (λ q n. request_on_model q u e n) (requests_of r) m)

-- ---- what lists of elements do not say, and the cells do

-- what files a lent image holds over the store as it is, none where it is not sound; and how many cells a tidying copies
pub record Look : Type 0 where
  pub files : Cells → Option Files
  pub copies : ℕ

-- ---- a call

abbrev pub files_or : Files → Option Files → Files
files_or h none = h
files_or h (some f) = f

abbrev pub start_on_model : Look → Start → Model → Outcome Model
start_on_model look fresh m = settle m (start_gate (leb least_store m.cells) (done (0, model m.cells (fresh_house m.cells))))
start_on_model look (load img) m = settle m (image_gate (leb least_store m.cells) (is_some (look.files img)) (done (0, model m.cells (files_or m.house (look.files img)))))

-- the answer to a question
abbrev pub ask_model : Question → Model → Said
ask_model (save img) m = image_gate true (eqb (length img) (image_length served)) (done 0)
ask_model (count u) m = user_gate true u (done (free m.house))

-- the answer to a call that arranges segments: users know the same afterwards
abbrev pub arrange_model : Look → Arranging → Model → Said
arrange_model look tidy m = still_gate true (has_open m.house) (done look.copies)

abbrev pub step : Look → Call → Model → Outcome Model
step look (starts c) m = start_on_model look c m
step look (asks q) m = outcome_of (ask_model q m) m
step look (arranges a) m = outcome_of (arrange_model look a m) m
step look (on u e r) m = request_on_model r u e m
step look (runs u e r) m = outcome_of (run_answer (run_on_model r u e m)) (run_on_model r u e m).after

-- what a run tells beside its answer
abbrev pub step_run : Call → Model → RunTold
step_run (starts c) m = no_run
step_run (asks q) m = no_run
step_run (arranges a) m = no_run
step_run (on u e r) m = no_run
step_run (runs u e r) m = run_told r (run_on_model r u e m)

-- ---- what is told of a call: its answer, the files in the image of a save that is done, and what a run tells

pub record Report : Type 0 where
  pub answer : Said
  pub image : Option Files
  pub run : RunTold

abbrev pub image_told : Call → Said → Option Files → Option Files
image_told (starts c) a f = none
image_told (asks (save img)) a f = cond (is_done a) f none
image_told (asks (count u)) a f = none
image_told (arranges q) a f = none
image_told (on u e r) a f = none
image_told (runs u e r) a f = none

abbrev pub report : Call → Said → Option Files → RunTold → Report
report c a f r = record { answer = a; image = image_told c a f; run = r }

-- "Saving writes the records only, whatever is open."
abbrev pub step_told : Look → Call → Model → Report
step_told look c m = report c (step look c m).answer (some (closed_down m.house)) (step_run c m)
