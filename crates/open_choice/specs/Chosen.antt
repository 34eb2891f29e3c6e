-- What a choice says of the opening: w says that it is for work. Assumes nothing.
use Rattle.std.specs.Prelude.{ℕ, ◌<◌, ◌≡◌, Bool, true, List, Result, Ok, Err}
use Rattle.combine.specs.Verdict.{Verdict, refused, done}
use Rattle.answers.specs.declared.Refusal.{Refusal}
use Rattle.answers.specs.Said.{refusal_number}
use Rattle.placing.specs.Sizes.{places}
use Rattle.rules.specs.Effects.{Effect, opens_old}
use Rattle.rules.specs.Rules.{opened_as}
use Rattle.tables.specs.Layout.{record_at}
use Rattle.tables.specs.Fields.{is_used}
use Rattle.tables.specs.Handles.{heading_of}

-- the place of the record that is opened, or the refusal
abbrev pub Choice : Type 0
Choice = Result ℕ Refusal

unfoldable pub chosen : Bool → List ℕ → Choice → Verdict Effect
chosen w t (Err why) = refused (refusal_number why)
chosen w t (Ok p) = done (opens_old p (opened_as w p (heading_of (record_at t p))))

-- it can be carried out
abbrev pub There : List ℕ → Choice → Type 0
There t (Err why) = Unit {0}
There t (Ok p) = (p < places) × (is_used (record_at t p) ≡ true)
