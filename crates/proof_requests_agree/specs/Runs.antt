-- A run on the cells of sound tables is the same run on what they say. Assumes nothing.
use Rattle.std.specs.Prelude.{ℕ, ◌≡◌, Bool, true}
use Rattle.std.proofs.Common.{ap}
use Rattle.std.proofs.Math.Path.{subst}
use Rattle.combine.specs.Verdict.{Said}
use Rattle.combine.specs.Outcome.{Outcome}
use Rattle.combine.specs.Run.{Ran, run_over, admitted}
use Rattle.combine.specs.Laws.Run.{Alike, admitted-alike, run-alike}
use Rattle.rules.specs.Calls.{Request, Run}
use Rattle.rules.specs.Runs.{requests_of, admission}
use Rattle.segments.specs.State.{State, request_on_segments}
use Rattle.cells.specs.Says.{house_of}
use Rattle.cells.specs.Outcomes.{Lent, sound_lent, request_out, run_out}
use Rattle.cells.specs.Laws.Lowered.{state_of}
use Rattle.proof_requests_agree.specs.Agrees.{request-agrees}
use Rattle.proof_requests_agree.specs.Requests.{request-sound}

unfoldable pub run_on_segments : Run → ℕ → ℕ → State → Ran State
run_on_segments r u e m = admitted m (admission true r u e m.house) (run_over (λ q n. request_on_segments q u e n) (requests_of r) m)

module _ (r : Run) (x : Lent) (u e : ℕ) (sound : sound_lent x.store x.tables ≡ true) where
  abbrev on_cells : Request → Lent → Outcome Lent
  on_cells q y = request_out q y.store y.tables u e

  abbrev on_segments : Request → State → Outcome State
  on_segments q m = request_on_segments q u e m

  calls-agree : Alike state_of (run_over on_cells (requests_of r) x) (run_over on_segments (requests_of r) (state_of x))
  calls-agree = run-alike state_of on_cells on_segments (λ y. sound_lent y.store y.tables ≡ true) (λ q y s. request-sound q y.store y.tables u e s)
      (λ q y s. let a = request-agrees q y.store y.tables u e s in record { answer = a.answer; after = a.after }) (requests_of r) x sound

  pub run-agrees : Alike state_of (run_out r x.store x.tables u e) (run_on_segments r u e (state_of x))
  unfolding run_out run_on_segments
  run-agrees =
      let judged : Said = admission (sound_lent x.store x.tables) r u e (house_of x.tables) in
      let calls = run_over on_cells (requests_of r) x in
      let said = run_over on_segments (requests_of r) (state_of x) in
      subst (λ (v : Said). Alike state_of (admitted x judged calls) (admitted (state_of x) v said)) (ap (λ (b : Bool). admission b r u e (house_of x.tables)) sound)
      (admitted-alike state_of x judged calls said calls-agree)
