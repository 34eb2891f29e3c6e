-- A request on the state as its users know it: another's private one changes nothing that the landlord sees; his own is answered the same, and leaves
-- what he sees the same. Assumes nothing.
use Rattle.std.specs.Prelude.{ℕ, ◌≤◌, ◌≡◌, refl, ◌≢◌, Bool, ◌&&◌, cond, List, map, get_or}
use Rattle.std.proofs.Common.{sym, ap, ◌∙◌, subst}
use Rattle.std.proofs.Math.Bool.{true, false, not}
use Rattle.std.proofs.Math.Option.{Option, none, some}
use Rattle.std.proofs.Math.Dec.{T}
use Rattle.combine.specs.Verdict.{Verdict, refused, done, is_done, on_done}
use Rattle.combine.specs.Laws.SameBut.{SameBut}
use Rattle.combine.specs.Outcome.{Outcome, settle}
use Rattle.placing.specs.Sizes.{greatest_user, greatest_entry, entry_of, user_of}
use Rattle.names.specs.Names.{is_scratch}
use Rattle.rules.specs.Calls.{Request, opens, closes, abandons, uses}
use Rattle.rules.specs.Headings.{Heading, Handle, Open, head_of}
use Rattle.rules.specs.Effects.{Effect, filed, used, ended, Others}
use Rattle.rules.specs.Access.{acting}
use Rattle.rules.specs.Rules.{headed, place_for, vanish, close_rule, rule}
use Rattle.rules.specs.Laws.Gates.{gate-related}
use Rattle.rules.specs.House.{changed, others_of}
use Rattle.rules.specs.Levels.{perform, ruled, or_blank}
use Rattle.model.specs.Model.{Body, Files, Model, model_level}
use Rattle.model.specs.Step.{perform_on_model, request_on_model}
use Rattle.proof_requests_sound.specs.Verdicts.{Has, has, has-on_done, has_done}
use Rattle.proof_requests_sound.specs.Uses.{Usable, usable-acting}
use Rattle.proof_requests_sound.specs.Allowed.{Allowed}
use Rattle.proof_neighbours.specs.Neighbours.{opens_public, NonePublic, asks_openly, hinders}
use Rattle.proof_neighbours.specs.Sees.{SamePlace, SameEntry, SeesSame}
use Rattle.proof_neighbours.specs.Requests.{request-cases, allowed_at, user-of}
use Rattle.proof_neighbours.proofs.Effects.{privately, opens-unseen, handles-unseen}
use Rattle.proof_neighbours.proofs.Busy.{Known}
use Rattle.proof_neighbours.proofs.Twins.{sat, same-sat, Twin}
use Rattle.proof_neighbours.proofs.Own.{Unhindered, open-same, closed_same}
use Rattle.proof_neighbours.proofs.Quiet.{quiet-opens, quiet-handles}
use Rattle.proof_neighbours.proofs.Performed.{performed-same}

-- ---- a filing is private, where the close is

abbrev Private : Effect → Type 0
Private f = T (privately f)

abbrev closes_openly : Request → Bool
closes_openly (opens w) = false
closes_openly (closes public) = public
closes_openly abandons = false
closes_openly (uses act) = false

module _ (u : ℕ) (rs : List (Option Heading)) (takes : ℕ → Bool) (o : Others) (h : Handle) where
  close-private : Has Private (close_rule false u rs h)
  unfolding close_rule headed
  close-private = has Private 18 _ _ (λ a. has Private 16 _ _ (λ b. has Private 17 _ _ (λ c. go (h.permit && not (is_scratch h.name)) h.permit h.place)))
    where
      go : (f w : Bool) (q : Option ℕ) → T (privately (cond f (filed (place_for rs h.place) (headed false u h)) (cond w (vanish q) ended)))
      go true w q = tt
      go false true none = tt
      go false true (some q) = tt
      go false false q = tt

  rule-private : (r : Request) → T (not (closes_openly r)) → Has Private (rule r u rs (some h) takes o)
  rule-private (opens w) t = tt
  rule-private (closes true) t = absurd t
  rule-private (closes false) t = close-private
  rule-private abandons t = tt
  rule-private (uses a) t = has-on_done (Usable h takes o.room) Private used (acting a takes o.room h) (λ w k. tt) (usable-acting takes o.room h a)

-- ---- another's request

not-closes : (r : Request) (k : Files) (i : ℕ) → T (not (asks_openly r i k)) → T (not (closes_openly r))
not-closes (opens w) k i t = tt
not-closes (closes b) k i t = t
not-closes abandons k i t = tt
not-closes (uses act) k i t = tt

-- at a closed entry only openings are done
not-public : (r : Request) (u : ℕ) (h k : Files) (i : ℕ) (f : Effect) → ruled model_level r u h none ≡ done f → T (not (asks_openly r i k)) → T (not (opens_public k i))
not-public (opens w) u h k i f e t = t
not-public (closes b) u h k i f e t = absurd (subst (λ (v : Verdict Effect). T (not (is_done v))) e tt)
not-public abandons u h k i f e t = absurd (subst (λ (v : Verdict Effect). T (not (is_done v))) e tt)
not-public (uses act) u h k i f e t = absurd (subst (λ (v : Verdict Effect). T (not (is_done v))) e tt)

module _ (a : ℕ) (h : Files) (m : Model) (s : SeesSame a h m.house) (w : Known a m.house) (v d : ℕ) (other : v ≢ a) (r : Request) where
  abbrev k : Files
  k = m.house

  abbrev i : ℕ
  i = entry_of v d

  abbrev Unseen : Files → Type 0
  Unseen n = SeesSame a h n × NonePublic a n

  effect-unseen : d ≤ greatest_entry → (z : Option (Open Body)) → get_or k.openings i none ≡ z → (f : Effect) → ruled model_level r v k z ≡ done f
      → T (not (asks_openly r i (changed k i (perform model_level k (or_blank model_level z) f)))) → Unseen (changed k i (perform model_level k (or_blank model_level z) f))
  effect-unseen ld none iz f ev t = (
    opens-unseen a h k s w.quiet w.tied i far v (map head_of k.records) (others_of (model_level.room k) k.openings) (or_blank model_level none) f (allowed_at r v k none f ev),
    quiet-opens a k w i v (map head_of k.records) (others_of (model_level.room k) k.openings) (or_blank model_level none) f (allowed_at r v k none f ev) (λ n. not-public r v k _ i f ev t),
  )
    where
      far : user_of i ≢ a
      far q = other (sym (user-of v d ld) ∙ q)
  effect-unseen ld (some x) iz f ev t =
      let hidden = has_done Private (ruled model_level r v k (some x)) f
      (rule-private v (map head_of k.records) (model_level.takes k x) (others_of (model_level.room k) k.openings) x.handle r (not-closes r _ i t)) ev in
      let al = subst (λ (u : ℕ). Allowed u (map head_of k.records) (model_level.takes k x) (others_of (model_level.room k) k.openings) (some x.handle) f) (sym (user-of v d ld)) (allowed_at r v k (some x) f ev) in (
        handles-unseen a h k s w.quiet w.tied i far (model_level.takes k x) (others_of (model_level.room k) k.openings) x iz f al hidden,
        quiet-handles a k w i x iz (model_level.takes k x) (others_of (model_level.room k) k.openings) f al (λ n. hidden),
      )
    where
      far : user_of i ≢ a
      far q = other (sym (user-of v d ld) ∙ q)

  pub other_step : T (not (is_done (request_on_model r v d m).answer && asks_openly r i (request_on_model r v d m).after.house)) → Unseen (request_on_model r v d m).after.house
  other_step = request-cases (λ o. T (not (is_done o.answer && asks_openly r i o.after.house)) → Unseen o.after.house) r v d m
      (λ n t. (s, w.quiet)) (λ lu ld f ev t. effect-unseen ld (get_or k.openings i none) refl f ev t)

-- ---- his own

module _ (a : ℕ) (m : Model) (w : Known a m.house) (e : ℕ) (r : Request) where
  own-effect : e ≤ greatest_entry → (z : Option (Open Body)) → get_or m.house.openings (entry_of a e) none ≡ z → (f : Effect) → ruled model_level r a m.house z ≡ done f
      → NonePublic a (changed m.house (entry_of a e) (perform model_level m.house (or_blank model_level z) f))
  own-effect le none iz f ev =
      quiet-opens a m.house w (entry_of a e) a (map head_of m.house.records) (others_of (model_level.room m.house) m.house.openings) (or_blank model_level none) f (allowed_at r a m.house none f ev)
      (λ n. absurd (n (user-of a e le)))
  own-effect le (some x) iz f ev =
      quiet-handles a m.house w (entry_of a e) x iz (model_level.takes m.house x) (others_of (model_level.room m.house) m.house.openings) f
      (subst (λ (u : ℕ). Allowed u (map head_of m.house.records) (model_level.takes m.house x) (others_of (model_level.room m.house) m.house.openings) (some x.handle) f) (sym (user-of a e le)) (allowed_at r a m.house (some x) f ev))
      (λ n. absurd (n (user-of a e le)))

  pub own-quiet : NonePublic a (request_on_model r a e m).after.house
  own-quiet = request-cases (λ o. NonePublic a o.after.house) r a e m (λ n. w.quiet) (λ la le f ev. own-effect le (get_or m.house.openings (entry_of a e) none) refl f ev)

module _ (a : ℕ) (m n : Model) (s : SeesSame a m.house n.house) (wm : Known a m.house) (wn : Known a n.house) (e : ℕ) (r : Request) where
  abbrev Alike : Outcome Model → Outcome Model → Type 0
  Alike o p =
      T (not (hinders o.answer)) → T (not (hinders p.answer))
      → (o.answer ≡ p.answer) × (Known a o.after.house → Known a p.after.house → SeesSame a o.after.house p.after.house)

  module _ (le : e ≤ greatest_entry) (la : a ≤ greatest_user) where
    settled_same : (x : Open Body) (q : Option ℕ) → SamePlace a m.house.records n.house.records x.handle.place q → (v w : Verdict Effect)
        → SameBut Unhindered Unhindered (Twin a m.house.records n.house.records x q) v w
        → Alike (settle m (on_done (perform_on_model m (entry_of a e) x) v)) (settle n (on_done (perform_on_model n (entry_of a e) (sat x q)) w))
    unfolding settle
    settled_same x q same (refused i) (refused j) b = λ t u. (ap refused (b t u), λ zh zk. s)
    settled_same x q same (refused i) (done g) b = λ t u. absurd (b t)
    settled_same x q same (done f) (refused j) b = λ t u. absurd (b u)
    settled_same x q same (done f) (done g) b = λ t u.
        let p = performed-same a m.house n.house s wm wn e le la x q same f g b in
        (ap done p.0, p.1)

    abbrev there : Option (Open Body) → Outcome Model
    there z = settle m (on_done (perform_on_model m (entry_of a e) (or_blank model_level z)) (ruled model_level r a m.house z))

    abbrev here : Option (Open Body) → Outcome Model
    here z = settle n (on_done (perform_on_model n (entry_of a e) (or_blank model_level z)) (ruled model_level r a n.house z))

    entry-alike : (x y : Option (Open Body)) → SameEntry a m.house.records n.house.records x y → Alike (there x) (here y)
    entry-alike none none t = settled_same (or_blank model_level none) none tt (ruled model_level r a m.house none) (ruled model_level r a n.house none) (closed_same a m.house n.house s wm wn r)
    entry-alike none (some y) t = absurd t
    entry-alike (some x) none t = absurd t
    entry-alike (some x) (some y) t =
        let q = y.handle.place in
        subst (λ (z : Open Body). Alike (there (some x)) (here (some z))) (sym (same-sat a m.house.records n.house.records x y t))
        (settled_same x q t.place (ruled model_level r a m.house (some x)) (ruled model_level r a n.house (some (sat x q))) (open-same a m.house n.house s wm wn x q t.place r))

  pub own-step : Alike (request_on_model r a e m) (request_on_model r a e n)
  unfolding request_on_model settle
  own-step = gate-related (λ v w. Alike (settle m v) (settle n w)) (λ j t u. (refl, λ zh zk. s)) true a e _ _
      (λ la le. entry-alike le la (get_or m.house.openings (entry_of a e) none) (get_or n.house.openings (entry_of a e) none) (s.mine e le))
