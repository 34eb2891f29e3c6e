-- Demand 2: what users know after a call is the model's step of what they knew, and the answers agree; of one call, and over histories.
-- Assumes nothing.
use Rattle.std.specs.Prelude.{◌≡◌, refl, true, List, [], ◌∷◌, length}
use Rattle.std.proofs.Common.{ap, ap₂, ◌∙◌, ⊎_elim}
use Rattle.std.proofs.Math.Option.{none}
use Rattle.combine.specs.Laws.Below.{not-both, split-bool}
use Rattle.combine.specs.Verdict.{is_done}
use Rattle.combine.specs.Outcome.{Outcome}
use Rattle.placing.specs.Sizes.{tables_length}
use Rattle.rules.specs.Calls.{Start, fresh, load, save, count, tidy, Call, starts, asks, arranges, on, runs}
use Rattle.rules.specs.Runs.{no_run}
use Rattle.tables.specs.Laws.Sound.{ranged-of}
use Rattle.cells.specs.Outcomes.{Lent, lengthsb}
use Rattle.model.specs.Model.{Model}
use Rattle.model.specs.Step.{Report, step, step_told}
use Rattle.proof_calls_sound.specs.Starts.{right-length}
use Rattle.proof_calls_sound.specs.Keeps.{keeps-sound, done-is-sound}
use Rattle.demands.specs.History.{Seen, outcome_on, after_call, told_of, look_on, view_on, seen_all, model_told, model_final}
use Rattle.demands.specs.Demands.{Sound, Refines, Demand2, Demand2Start, RefinesAll, Demand2History, Demand2FromStart}
use Rattle.demands.specs.Laws.Unsound.{refuses-lengths}
use Rattle.proof_demand2.specs.Calls.{request-agreed, count-agreed, fresh-agreed, load-agreed}
use Rattle.proof_demand2.specs.Saves.{save-refines}
use Rattle.proof_demand2.specs.Tidies.{tidy-refines}
use Rattle.proof_demand2.specs.Runs.{run-refines}

-- ---- "A fresh start and a load don't look at what the tables held"

pub demand2-start : Demand2Start
demand2-start fresh x long =
    let a = fresh-agreed x.store x.tables long in
    λ i. (record { answer = a.answer i; image = none; run = no_run }, a.after i)
demand2-start (load img) x long =
    let a = load-agreed x.store x.tables long img in
    λ i. (record { answer = a.answer i; image = none; run = no_run }, a.after i)

-- ---- on sound tables

pub demand2 : Demand2
demand2 (starts c) x sound = demand2-start c x (ranged-of (length x.store) x.tables sound).0
demand2 (asks (save img)) x sound = save-refines img x sound
demand2 (asks (count u)) x sound = λ i. (record { answer = count-agreed x.store x.tables sound u i; image = none; run = no_run }, view_on x)
demand2 (arranges tidy) x sound = tidy-refines x sound
demand2 (on u e r) x sound =
    let a = request-agreed x.store x.tables sound r u e in
    λ i. (record { answer = a.answer i; image = none; run = no_run }, a.after i)
demand2 (runs u e r) x sound = run-refines u e r x sound

-- ---- of a call, part by part

module _ (c : Call) (x : Lent) (sound : Sound x) where
  pub told-known : told_of c x ≡ step_told (look_on x) c (view_on x)
  told-known = ap (λ (p : Report × Model). p.0) (demand2 c x sound)

  pub answer-known : (outcome_on c x).answer ≡ (step (look_on x) c (view_on x)).answer
  answer-known = ap (λ (r : Report). r.answer) told-known

  pub after-known : view_on (after_call c x) ≡ (step (look_on x) c (view_on x)).after
  after-known = ap (λ (p : Report × Model). p.1) (demand2 c x sound)

-- ---- over histories

-- one call more
one_more : (c : Call) (cs : List Call) (x : Lent) → Refines c x → RefinesAll cs (after_call c x) → RefinesAll (c ∷ cs) x
one_more c cs x one later =
    let seen : List Seen = seen_all cs (after_call c x) in
    let known : view_on (after_call c x) ≡ (step (look_on x) c (view_on x)).after = ap (λ (p : Report × Model). p.1) one in (
      ap₂ {C = List Report} (λ a l. a ∷ l) (ap (λ (p : Report × Model). p.0) one) (later.0 ∙ ap (model_told seen) known),
      later.1 ∙ ap (model_final seen) known,
    )

pub demand2-history : Demand2History
demand2-history [] x sound = (refl, refl)
demand2-history (c ∷ cs) x sound = one_more c cs x (demand2 c x sound) (demand2-history cs (after_call c x) (keeps-sound c x sound))

-- a start that is done found tables of the right length
done-length : (c : Start) (x : Lent) → is_done (outcome_on (starts c) x).answer ≡ true → length x.tables ≡ tables_length
done-length c x d = ⊎_elim
    (λ e. right-length x.store x.tables e)
    (λ e. absurd (not-both d (ap (λ (o : Outcome Lent). is_done o.answer) (refuses-lengths c x e))))
    (split-bool (lengthsb x.store x.tables))

pub demand2-from-start : Demand2FromStart
demand2-from-start c cs x d =
    one_more (starts c) cs x (demand2-start c x (done-length c x d)) (demand2-history cs (after_call (starts c) x) (done-is-sound (starts c) x d))
