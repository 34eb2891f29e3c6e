-- Any call that is not the user's by the entry, beside the same call where the entry is emptied; and a call where only the store differs in
-- what freed segments were left with. Assumes nothing.
use Rattle.std.specs.Prelude.{ℕ, ◌≡◌, cond, List, eqb}
use Rattle.combine.specs.Verdict.{Said, refused}
use Rattle.rules.specs.Calls.{Call}
use Rattle.rules.specs.Headings.{is_some}
use Rattle.model.specs.Model.{Model}
use Rattle.model.specs.Step.{Look, Report, step, step_told}
use Rattle.demands.specs.Hearing.{left_fate, later_fate, hear}
use Rattle.proof_demand3.specs.Eased.{emptied}

-- the same images are sound
abbrev pub SameLook : Look → Look → Type 0
SameLook f g = (img : List ℕ) → is_some (g.files img) ≡ is_some (f.files img)

-- what `answered_as` gives, by what is told of the call
abbrev pub answered_in : Report → Said
answered_in r = cond (eqb r.run.stop 0) r.answer (refused r.run.stop)

-- the same is heard
abbrev pub ToldAlike : Call → Report → Report → Type 0
ToldAlike c a b = hear (left_fate c) a ≡ hear (left_fate c) b

-- afterwards the entry is emptied, and the same is told, but for the numbers of counts
pub record Carried (i : ℕ) (c : Call) (f g : Look) (m : Model) : Type 0 where
  pub after : (step g c (emptied i m)).after ≡ emptied i (step f c m).after
  pub told : ToldAlike c (step_told f c m) (step_told g c (emptied i m))

-- the same afterwards, and the same is told, but for the number of a tidying
pub record Followed (c : Call) (f g : Look) (m : Model) : Type 0 where
  pub after : (step g c m).after ≡ (step f c m).after
  pub told : hear (later_fate c) (step_told f c m) ≡ hear (later_fate c) (step_told g c m)
