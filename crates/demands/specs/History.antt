-- "A history is a list of calls with the numbers and lists lent to them, an image lent to be read among these; each call gets the
-- store and tables as the one before left them, and nobody writes there between." Assumes nothing.
use Rattle.std.specs.Prelude.{Bool, cond, List, [], ◌∷◌}
use Rattle.combine.specs.Outcome.{Outcome}
use Rattle.rules.specs.Calls.{Call}
use Rattle.segments.specs.Moves.{tidy_count}
use Rattle.cells.specs.Says.{house_of}
use Rattle.cells.specs.Outcomes.{Lent, call_out, call_image, call_run}
use Rattle.model.specs.Model.{Model}
use Rattle.model.specs.Step.{Look, Report, report, step, step_told}
use Rattle.model.specs.View.{view, files_in}

-- ---- a call on cells

abbrev pub outcome_on : Call → Lent → Outcome Lent
outcome_on c x = call_out c x.store x.tables

abbrev pub after_call : Call → Lent → Lent
after_call c x = (outcome_on c x).after

abbrev pub told_of : Call → Lent → Report
told_of c x = report c (outcome_on c x).answer (files_in x.store (call_image c x.store x.tables)) (call_run c x.store x.tables)

abbrev pub view_on : Lent → Model
view_on x = view x.store x.tables

-- what is told from the cells
abbrev pub look_on : Lent → Look
look_on x = record { files = files_in x.store; copies = tidy_count (house_of x.tables) }

-- ---- a history on cells

abbrev pub told_all : List Call → Lent → List Report
told_all [] x = []
told_all (c ∷ cs) x = told_of c x ∷ told_all cs (after_call c x)

abbrev pub final : List Call → Lent → Lent
final [] x = x
final (c ∷ cs) x = final cs (after_call c x)

-- its calls that pass a test
abbrev pub those : (Call → Bool) → List Call → List Call
those f [] = []
those f (c ∷ cs) = cond (f c) (c ∷ those f cs) (those f cs)

-- every call meets a premise, on the cells that it finds
abbrev pub Each : (Call → Lent → Type 0) → List Call → Lent → Type 0
Each P [] x = Unit {0}
Each P (c ∷ cs) x = P c x × Each P cs (after_call c x)

-- ---- the same history as users know it: with each call goes what the cells of that time tell

pub record Seen : Type 0 where
  pub call : Call
  pub look : Look

abbrev pub seen_all : List Call → Lent → List Seen
seen_all [] x = []
seen_all (c ∷ cs) x = record { call = c; look = look_on x } ∷ seen_all cs (after_call c x)

abbrev pub model_told : List Seen → Model → List Report
model_told [] m = []
model_told (c ∷ cs) m = step_told c.look c.call m ∷ model_told cs (step c.look c.call m).after

abbrev pub model_final : List Seen → Model → Model
model_final [] m = m
model_final (c ∷ cs) m = model_final cs (step c.look c.call m).after
