-- A run on cells, beside the model's: its single calls agree one after another. Assumes nothing.
use Rattle.std.specs.Prelude.{ℕ, ◌≡◌, Bool, true}
use Rattle.std.proofs.Math.Path.{sym, ap, subst}
use Rattle.std.proofs.Common.{◌∙◌}
use Rattle.std.proofs.Math.Option.{none}
use Rattle.combine.specs.Verdict.{Said}
use Rattle.combine.specs.Outcome.{Outcome}
use Rattle.combine.specs.Run.{Ran, ran, run_over, admitted}
use Rattle.combine.specs.Laws.Run.{Alike, admitted-alike, run-alike}
use Rattle.rules.specs.Calls.{Request, Run, writes, fills, on, runs}
use Rattle.rules.specs.Runs.{requests_of, admission, run_answer, run_told}
use Rattle.cells.specs.Says.{house_of}
use Rattle.cells.specs.Outcomes.{Lent, sound_lent, run_out}
use Rattle.model.specs.Model.{Model}
use Rattle.model.specs.Step.{Report, request_on_model, run_on_model}
use Rattle.model.specs.View.{view}
use Rattle.model.specs.Laws.Sight.{admission-seen}
use Rattle.demands.specs.History.{view_on}
use Rattle.demands.specs.Demands.{Sound, Refines}
use Rattle.proof_calls_sound.specs.Keeps.{keeps-sound}
use Rattle.proof_calls_sound.specs.Runs.{single}
use Rattle.proof_demand2.specs.Calls.{request-agreed}

module _ (u e : ℕ) where
  -- what is judged before the first call
  pub admission-known : (r : Run) (x : Lent) → Sound x → admission (sound_lent x.store x.tables) r u e (house_of x.tables) ≡ admission true r u e (view_on x).house
  unfolding view
  admission-known r x sound = ap (λ (b : Bool). admission b r u e (house_of x.tables)) sound ∙ sym (admission-seen x.store r u e (house_of x.tables))

  pub run-seen : (r : Run) (x : Lent) → Sound x → Alike view_on (run_out r x.store x.tables u e) (run_on_model r u e (view_on x))
  unfolding run_out run_on_model
  run-seen r x sound =
      subst (λ (v : Said). Alike view_on (admitted x judged calls) (admitted (view_on x) v known)) (admission-known r x sound) (admitted-alike view_on x judged calls known alike)
    where
      judged : Said
      judged = admission (sound_lent x.store x.tables) r u e (house_of x.tables)

      known-call : Request → Model → Outcome Model
      known-call q m = request_on_model q u e m

      calls : Ran Lent
      calls = run_over (single u e) (requests_of r) x

      known : Ran Model
      known = run_over known-call (requests_of r) (view_on x)

      alike : Alike view_on calls known
      alike = run-alike view_on (single u e) known-call Sound (λ q y s. keeps-sound (on u e q) y s)
          (λ q y s. let a = request-agreed y.store y.tables s q u e in record { answer = a.answer; after = a.after }) (requests_of r) x sound

  -- a run of which users know the state afterwards
  abbrev known-after : Ran Lent → Ran Model
  known-after q = ran q.many q.stop q.told (view_on q.after)

  abbrev said : Run → Ran Model → Report × Model
  said r q = (record { answer = run_answer q; image = none; run = run_told r q }, q.after)

  pub run-refines : (r : Run) (x : Lent) → Sound x → Refines (runs u e r) x
  run-refines r x sound = go r same
    where
      same : known-after (run_out r x.store x.tables u e) ≡ run_on_model r u e (view_on x)
      same =
          let a = run-seen r x sound in
          λ i. ran (a.many i) (a.stop i) (a.told i) (a.after i)

      go : (r : Run) → known-after (run_out r x.store x.tables u e) ≡ run_on_model r u e (view_on x) → Refines (runs u e r) x
      go (writes p l) q = ap (said (writes p l)) q
      go (fills p l) q = ap (said (fills p l)) q
