-- A request on the state as its users know it: refused, or an effect that its rule allows. Assumes nothing.
use Rattle.std.specs.Prelude.{ℕ, ◌≤◌, ◌≡◌, refl, true, map, get_or}
use Rattle.std.proofs.Common.{arith}
use Rattle.std.proofs.Math.Option.{Option, none}
use Rattle.combine.specs.Verdict.{Verdict, refused, done, on_done}
use Rattle.combine.specs.Outcome.{Outcome, outcome_of, settle}
use Rattle.placing.specs.Sizes.{greatest_user, greatest_entry, entry_of, user_of}
use Rattle.rules.specs.Calls.{Request}
use Rattle.rules.specs.Headings.{Open, head_of, handle_of}
use Rattle.rules.specs.Effects.{Effect}
use Rattle.rules.specs.Laws.Gates.{gate-related}
use Rattle.rules.specs.House.{changed, others_of}
use Rattle.rules.specs.Levels.{perform, ruled, or_blank}
use Rattle.model.specs.Model.{Body, Files, Model, model, model_level}
use Rattle.model.specs.Step.{perform_on_model, request_on_model}
use Rattle.proof_requests_sound.specs.Verdicts.{has_done}
use Rattle.proof_requests_sound.specs.Allowed.{Allowed, allowed-rule}

-- ---- refused, or an effect

pub request-cases : (P : Outcome Model → Type 0) (r : Request) (u e : ℕ) (m : Model) → ((n : ℕ) → P (outcome_of (refused n) m))
    → (u ≤ greatest_user → e ≤ greatest_entry → (f : Effect) → ruled model_level r u m.house (get_or m.house.openings (entry_of u e) none) ≡ done f
    → let c = perform model_level m.house (or_blank model_level (get_or m.house.openings (entry_of u e) none)) f in
    P (outcome_of (done c.answer) (model m.cells (changed m.house (entry_of u e) c))))
    → P (request_on_model r u e m)
unfolding request_on_model settle
request-cases P r u e m stop gone =
    gate-related (λ v w. P (settle m v)) stop true u e judged judged (λ lu le. go lu le (ruled model_level r u m.house z) refl)
  where
    z : Option (Open Body)
    z = get_or m.house.openings (entry_of u e) none

    judged : Verdict (ℕ × Model)
    judged = on_done (perform_on_model m (entry_of u e) (or_blank model_level z)) (ruled model_level r u m.house z)

    go : u ≤ greatest_user → e ≤ greatest_entry → (v : Verdict Effect) → ruled model_level r u m.house z ≡ v
        → P (settle m (on_done (perform_on_model m (entry_of u e) (or_blank model_level z)) v))
    go lu le (refused n) ev = stop n
    go lu le (done f) ev = gone lu le f ev

pub allowed_at : (r : Request) (u : ℕ) (h : Files) (z : Option (Open Body)) (f : Effect) → ruled model_level r u h z ≡ done f
    → Allowed u (map head_of h.records) (model_level.takes h (or_blank model_level z)) (others_of (model_level.room h) h.openings) (handle_of z) f
allowed_at r u h z f ev =
    has_done (Allowed u (map head_of h.records) (model_level.takes h (or_blank model_level z)) (others_of (model_level.room h) h.openings) (handle_of z))
    (ruled model_level r u h z) f (allowed-rule u (map head_of h.records) (model_level.takes h (or_blank model_level z)) (others_of (model_level.room h) h.openings) r (handle_of z)) ev

pub user-of : (u e : ℕ) → e ≤ greatest_entry → user_of (entry_of u e) ≡ u
user-of u e l = omega (arith, l)
