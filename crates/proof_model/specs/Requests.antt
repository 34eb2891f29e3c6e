-- Every request: what users know after it is the model's request on what they knew, with the same answer. Assumes nothing.
use Rattle.std.specs.Prelude.{ℕ, ◌*◌, ◌≤◌, ◌≡◌, length}
use Rattle.std.proofs.Math.Path.{refl, ap, subst}
use Rattle.std.proofs.Common.{sym, ap₂, ◌∙◌}
use Rattle.std.proofs.Math.Bool.{true}
use Rattle.std.proofs.Math.Option.{Option, none}
use Rattle.std.proofs.Math.ListN.{get_or, get_or-map}
use Rattle.combine.specs.Verdict.{Verdict, refused, done, on_done}
use Rattle.combine.specs.Outcome.{Outcome, settle}
use Rattle.placing.specs.Sizes.{segment_cells, entry_of}
use Rattle.rules.specs.Calls.{Request}
use Rattle.rules.specs.Headings.{Open}
use Rattle.rules.specs.Effects.{Effect}
use Rattle.rules.specs.Gates.{entry_gate}
use Rattle.rules.specs.Laws.Gates.{gate-related}
use Rattle.rules.specs.Levels.{ruled, or_blank}
use Rattle.segments.specs.Free.{SegmentOpening}
use Rattle.segments.specs.Deeds.{segment_level}
use Rattle.segments.specs.State.{State, perform_on_segments, request_on_segments}
use Rattle.segments.specs.Laws.Sound.{SoundHouse}
use Rattle.model.specs.Model.{Body, Model, model_level}
use Rattle.model.specs.Step.{perform_on_model, request_on_model}
use Rattle.model.specs.View.{view_opening, view_entry, view_house}
use Rattle.model.specs.Laws.Sight.{rule-seen}
use Rattle.proof_requests_sound.specs.Requests.{effect-allowed}
use Rattle.proof_model.specs.Counted.{room-seen}
use Rattle.proof_model.specs.Entries.{view_state}
use Rattle.proof_model.specs.Effects.{blank-seen, Seen, effect-seen}

-- the same answer, and users know what the model has
pub record Shows (o : Outcome State) (q : Outcome Model) : Type 0 where
  pub answer : o.answer ≡ q.answer
  pub after : view_state o.after ≡ q.after

module _ (m : State) (sound : SoundHouse m.house) (fits : segment_cells * m.house.segments ≤ length m.store) where
  module _ (r : Request) (u e : ℕ) where
    abbrev i : ℕ
    i = entry_of u e

    abbrev entry : Option SegmentOpening
    entry = get_or m.house.openings (entry_of u e) none

    abbrev mine : SegmentOpening
    mine = or_blank (segment_level m.store) entry

    abbrev shown : Open Body
    shown = view_opening m.store m.house.records mine

    settled : (v : Verdict Effect) → ((f : Effect) → v ≡ done f → Seen m sound fits (entry_of u e) mine f)
        → Shows (settle m (on_done (perform_on_segments m i mine) v)) (settle (view_state m) (on_done (perform_on_model (view_state m) i shown) v))
    unfolding settle
    settled (refused n) k = record { answer = refl; after = refl }
    settled (done f) k = record { answer = ap done (k f refl).answer; after = (k f refl).after }

    -- behind the gate
    behind : (v : Verdict (ℕ × State)) (w : Verdict (ℕ × Model)) → Shows (settle m v) (settle (view_state m) w)
        → Shows (settle m (entry_gate true u e v)) (settle (view_state m) (entry_gate true u e w))
    unfolding settle
    behind v w k = gate-related (λ v w. Shows (settle m v) (settle (view_state m) w)) (λ n. record { answer = refl; after = refl }) true u e v w (λ hu he. k)

    pub request-seen : Shows (request_on_segments r u e m) (request_on_model r u e (view_state m))
    unfolding request_on_model
    request-seen =
        let st = m.store in
        let h = m.house in
        let seen : get_or (view_state m).house.openings i none ≡ view_entry st h.records entry = get_or-map (view_entry st h.records) h.openings i none in
        let verdict : ruled model_level r u (view_house st h) (get_or (view_state m).house.openings i none) ≡ ruled (segment_level st) r u h entry =
        ap (ruled model_level r u (view_house st h)) seen ∙ rule-seen st r u h entry (room-seen st h sound) in
        let opening : or_blank model_level (get_or (view_state m).house.openings i none) ≡ shown = ap (or_blank model_level) seen ∙ blank-seen st h.records entry in
        subst (λ (w : Verdict (ℕ × Model)). Shows (request_on_segments r u e m) (settle (view_state m) (entry_gate true u e w)))
        (sym (ap₂ (λ (x : Open Body) (v : Verdict Effect). on_done (perform_on_model (view_state m) i x) v) opening verdict))
        (behind _ _ (settled (ruled (segment_level st) r u h entry) (λ f q. effect-seen m sound fits i u entry refl f (effect-allowed st r u h entry f q))))
