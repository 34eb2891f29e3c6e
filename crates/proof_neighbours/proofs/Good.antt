-- Cells, here and there, that look alike to the landlord: sound, nobody but him has a public file open, and he sees the same. What a request of his
-- own, and of another, does to them. Assumes nothing.
use Rattle.std.specs.Prelude.{ℕ, ◌≡◌, ◌≢◌, Bool, not, ◌&&◌, T}
use Rattle.std.proofs.Common.{sym, ap, ap₂, ◌∙◌, subst}
use Rattle.combine.specs.Verdict.{Said, is_done}
use Rattle.cells.specs.Says.{house_of}
use Rattle.cells.specs.Outcomes.{Lent, request_out}
use Rattle.rules.specs.Calls.{Request, Arranging, arranges, on}
use Rattle.model.specs.Model.{Model}
use Rattle.model.specs.Step.{request_on_model}
use Rattle.proof_calls_sound.specs.Keeps.{keeps-sound}
use Rattle.proof_demand2.specs.Calls.{Agrees, request-agreed}
use Rattle.proof_demand2.specs.Demand2.{after-known}
use Rattle.demands.specs.History.{outcome_on, after_call, view_on}
use Rattle.demands.specs.Demands.{Sound}
use Rattle.proof_neighbours.specs.Neighbours.{NonePublic, openly, hinders}
use Rattle.proof_neighbours.specs.Sees.{SeesSame}
use Rattle.proof_neighbours.proofs.Busy.{Known}
use Rattle.proof_neighbours.proofs.Twins.{sees-sym}
use Rattle.proof_neighbours.proofs.Steps.{other_step, own-quiet, own-step}
use Rattle.proof_neighbours.proofs.Cells.{known-view, openly-view}

module _ (a : ℕ) where
  pub record Good (x y : Lent) : Type 0 where
    pub sound_here : Sound x
    pub sound_there : Sound y
    pub quiet_here : NonePublic a (view_on x).house
    pub quiet_there : NonePublic a (view_on y).house
    pub sees : SeesSame a (view_on x).house (view_on y).house

  pub good-sym : (x y : Lent) → Good x y → Good y x
  good-sym x y g = record {
    sound_here = g.sound_there;
    sound_there = g.sound_here;
    quiet_here = g.quiet_there;
    quiet_there = g.quiet_here;
    sees = sees-sym a (view_on x).house (view_on y).house g.sees;
  }

  -- ---- the operator's moves of segments: users know the same

  pub arranged-good : (x y : Lent) → Good x y → (q : Arranging) → Good x (after_call (arranges q) y)
  arranged-good x y g q =
      let same : view_on (after_call (arranges q) y) ≡ view_on y = after-known (arranges q) y g.sound_there in
      record {
        sound_here = g.sound_here;
        sound_there = keeps-sound (arranges q) y g.sound_there;
        quiet_here = g.quiet_here;
        quiet_there = subst (λ (m : Model). NonePublic a m.house) (sym same) g.quiet_there;
        sees = subst (λ (m : Model). SeesSame a (view_on x).house m.house) (sym same) g.sees;
      }

  -- ---- another's request that is not done openly

  pub other-good : (x y : Lent) → Good x y → (v d : ℕ) (r : Request) → v ≢ a
      → T (not (is_done (outcome_on (on v d r) y).answer && openly (on v d r) (house_of (after_call (on v d r) y).tables))) → Good x (after_call (on v d r) y)
  other-good x y g v d r other t =
      let agreed = request-agreed y.store y.tables g.sound_there r v d in
      let known : openly (on v d r) (house_of (after_call (on v d r) y).tables) ≡ openly (on v d r) (request_on_model r v d (view_on y)).after.house =
      openly-view (on v d r) (after_call (on v d r) y) ∙ ap (λ (m : Model). openly (on v d r) m.house) agreed.after in
      let unseen = other_step a (view_on x).house (view_on y) g.sees (known-view a y g.sound_there g.quiet_there) v d other r
      (subst (λ (b : Bool). T (not b)) (ap₂ (λ (s : Said) (b : Bool). is_done s && b) agreed.answer known) t) in
      record {
        sound_here = g.sound_here;
        sound_there = keeps-sound (on v d r) y g.sound_there;
        quiet_here = g.quiet_here;
        quiet_there = subst (λ (m : Model). NonePublic a m.house) (sym agreed.after) unseen.1;
        sees = subst (λ (m : Model). SeesSame a (view_on x).house m.house) (sym agreed.after) unseen.0;
      }

  -- ---- his own

  -- nobody else has a public file open after it
  own-quiets : (x : Lent) → Sound x → NonePublic a (view_on x).house → (d : ℕ) (r : Request) → NonePublic a (view_on (after_call (on a d r) x)).house
  own-quiets x sound quiet d r =
      subst (λ (m : Model). NonePublic a m.house) (sym (request-agreed x.store x.tables sound r a d).after) (own-quiet a (view_on x) (known-view a x sound quiet) d r)

  own-knows : (x : Lent) → Sound x → NonePublic a (view_on x).house → (d : ℕ) (r : Request) → Known a (request_on_model r a d (view_on x)).after.house
  own-knows x sound quiet d r =
      subst (λ (m : Model). Known a m.house) (request-agreed x.store x.tables sound r a d).after
      (known-view a (after_call (on a d r) x) (keeps-sound (on a d r) x sound) (own-quiets x sound quiet d r))

  module _ (x y : Lent) (g : Good x y) (d : ℕ) (r : Request) (p : T (not (hinders (outcome_on (on a d r) x).answer))) (q : T (not (hinders (outcome_on (on a d r) y).answer))) where
    here : Agrees (request_out r x.store x.tables a d) (request_on_model r a d (view_on x))
    here = request-agreed x.store x.tables g.sound_here r a d

    there : Agrees (request_out r y.store y.tables a d) (request_on_model r a d (view_on y))
    there = request-agreed y.store y.tables g.sound_there r a d

    step : ((request_on_model r a d (view_on x)).answer ≡ (request_on_model r a d (view_on y)).answer)
        × (Known a (request_on_model r a d (view_on x)).after.house → Known a (request_on_model r a d (view_on y)).after.house
        → SeesSame a (request_on_model r a d (view_on x)).after.house (request_on_model r a d (view_on y)).after.house)
    step = own-step a (view_on x) (view_on y) g.sees (known-view a x g.sound_here g.quiet_here) (known-view a y g.sound_there g.quiet_there) d r
        (subst (λ (s : Said). T (not (hinders s))) here.answer p) (subst (λ (s : Said). T (not (hinders s))) there.answer q)

    pub own-answer : (outcome_on (on a d r) x).answer ≡ (outcome_on (on a d r) y).answer
    own-answer = here.answer ∙ step.0 ∙ sym there.answer

    pub own-good : Good (after_call (on a d r) x) (after_call (on a d r) y)
    own-good = record {
      sound_here = keeps-sound (on a d r) x g.sound_here;
      sound_there = keeps-sound (on a d r) y g.sound_there;
      quiet_here = own-quiets x g.sound_here g.quiet_here d r;
      quiet_there = own-quiets y g.sound_there g.quiet_there d r;
      sees = subst (λ (m : Model). SeesSame a m.house (view_on (after_call (on a d r) y)).house) (sym here.after)
          (subst (λ (n : Model). SeesSame a (request_on_model r a d (view_on x)).after.house n.house) (sym there.after)
          (step.1 (own-knows x g.sound_here g.quiet_here d r) (own-knows y g.sound_there g.quiet_there d r)));
    }
