-- What the user does by the entry, while the opening goes on, changes nothing but the entry; the opening found it closed, and abandoning
-- empties it. Assumes nothing.
use Rattle.std.specs.Prelude.{ℕ, ◌≡◌, Bool, true, false, not, ◌&&◌, List, map, T, ltb, get_or, set}
use Rattle.std.proofs.Math.Path.{refl}
use Rattle.std.proofs.Common.{sym, ap, ◌∙◌, set-set}
use Rattle.std.proofs.Math.Option.{Option, none, some}
use Rattle.std.proofs.lemmas.List.{set-get_or}
use Rattle.combine.specs.Verdict.{Verdict, refused, done, is_done, on_done, refuse◌when◌else◌}
use Rattle.combine.specs.Outcome.{settle}
use Rattle.placing.specs.Sizes.{entry_of}
use Rattle.names.specs.Names.{name_of}
use Rattle.rules.specs.Calls.{Way, new, work, read, Request, opens, closes, abandons, uses}
use Rattle.rules.specs.Headings.{Heading, Handle, Open, head_of, handle_of}
use Rattle.rules.specs.Effects.{Effect, Use, used, Others}
use Rattle.rules.specs.Access.{acting}
use Rattle.rules.specs.Rules.{open_new, open_record, open_old, open_way, look_up, rule}
use Rattle.rules.specs.Gates.{user_gate, entry_gate}
use Rattle.rules.specs.Laws.Gates.{gate-related}
use Rattle.rules.specs.House.{kept, house, refiled}
use Rattle.rules.specs.Levels.{perform, ruled, or_blank}
use Rattle.model.specs.Model.{Body, Files, Model, model, model_level}
use Rattle.model.specs.Step.{perform_on_model, request_on_model}
use Rattle.demands.specs.Abandoning.{ending}
use Rattle.combine.specs.Laws.Tests.{nand-second}
use Rattle.proof_requests_sound.specs.Verdicts.{Has, has, has-on_done}
use Rattle.proof_demand3.specs.Eased.{emptied, others_in}
use Rattle.proof_demand3.specs.Another.{judged}

-- ---- a request that does not end an opening leaves the records

abbrev Leaves : Effect → Type 0
Leaves f = (h : Files) (x : Open Body) → (perform model_level h x f).filing ≡ kept

new-leaves : (s : ℕ) → Has Leaves (open_new s)
unfolding open_new
new-leaves s = has Leaves 19 _ _ (λ t h x. refl)

record-leaves : (w : Bool) (u p : ℕ) (r : Option Heading) (o : Others) → Has Leaves (open_record w u p r o)
record-leaves w u p none o = tt
record-leaves w u p (some r) o = has Leaves 13 _ _ (λ s. has Leaves 14 _ _ (λ t h x. refl))

old-leaves : (w : Bool) (u : ℕ) (n : List ℕ) (rs : List (Option Heading)) (o : Others) → Has Leaves (open_old w u n rs o)
unfolding open_old
old-leaves w u n rs o = has Leaves 15 _ _ (λ s. record-leaves w u (look_up u n rs) (get_or rs (look_up u n rs) none) o)

way-leaves : (w : Way) (u : ℕ) (rs : List (Option Heading)) (o : Others) → Has Leaves (open_way w u rs o)
way-leaves (new s) u rs o = new-leaves s
way-leaves (work n) u rs o = old-leaves true u (name_of n) rs o
way-leaves (read n) u rs o = old-leaves false u (name_of n) rs o

any-use : (v : Verdict Use) → Has (λ u. Unit {0}) v
any-use (refused n) = tt
any-use (done u) = tt

rule-leaves : (r : Request) (u : ℕ) (rs : List (Option Heading)) (x : Option Handle) (takes : ℕ → Bool) (o : Others) → T (not (ending r)) → Has Leaves (rule r u rs x takes o)
rule-leaves (opens w) u rs none takes o t = way-leaves w u rs o
rule-leaves (opens w) u rs (some h) takes o t = tt
rule-leaves (closes b) u rs x takes o t = absurd t
rule-leaves abandons u rs x takes o t = absurd t
rule-leaves (uses a) u rs none takes o t = tt
rule-leaves (uses a) u rs (some h) takes o t = has-on_done (λ u. Unit {0}) Leaves used (acting a takes o.room h) (λ u q g x. refl) (any-use (acting a takes o.room h))

-- ---- the user's requests by the entry i

module _ (m : Model) (i : ℕ) where
  settle-leaves : (x : Open Body) (v : Verdict Effect) → Has Leaves v → emptied i (settle m (on_done (perform_on_model m i x) v)).after ≡ emptied i m
  unfolding settle
  settle-leaves x (refused n) h = refl
  settle-leaves x (done f) h =
      λ t. model m.cells (house m.house.segments (refiled m.house.records (h m.house x t)) (set-set m.house.openings i (perform model_level m.house x f).entry none t))

  -- an entry that is not open, emptied
  pub emptied-closed : get_or m.house.openings i none ≡ none → emptied i m ≡ m
  emptied-closed e =
      ap (λ (l : List (Option (Open Body))). model m.cells (house m.house.segments m.house.records l)) (ap (set m.house.openings i) (sym e) ∙ set-get_or m.house.openings i none)

-- a request that passes the gate, or is refused
gate-leaves : (i : ℕ) (m : Model) (u e : ℕ) (v : Verdict (ℕ × Model)) → emptied i (settle m v).after ≡ emptied i m → emptied i (settle m (entry_gate true u e v)).after ≡ emptied i m
unfolding settle
gate-leaves i m u e v h = gate-related (λ v w. emptied i (settle m v).after ≡ emptied i m) (λ n. refl) true u e v v (λ hu he. h)

refused-leaves : (i : ℕ) (m : Model) (v : Verdict (ℕ × Model)) → T (not (is_done (settle m v).answer)) → emptied i (settle m v).after ≡ emptied i m
unfolding settle
refused-leaves i m (refused n) t = refl
refused-leaves i m (done c) t = absurd t

pub request-own : (u e : ℕ) (m : Model) (r : Request) → T (not (ending r && is_done (request_on_model r u e m).answer))
    → emptied (entry_of u e) (request_on_model r u e m).after ≡ emptied (entry_of u e) m
unfolding request_on_model
request-own u e m r t = go (ending r) refl
  where
    i : ℕ
    i = entry_of u e

    x : Option (Open Body)
    x = get_or m.house.openings i none

    go : (b : Bool) → ending r ≡ b
        → emptied i (settle m (entry_gate true u e (judged m i r u x))).after ≡ emptied i m
    go true q = refused-leaves i m _ (nand-second (ending r) _ t (rw q tt))
    go false q =
        gate-leaves i m u e _
        (settle-leaves m i (or_blank model_level x) (ruled model_level r u m.house x)
        (rule-leaves r u (map head_of m.house.records) (handle_of x) (model_level.takes m.house (or_blank model_level x)) (others_in m.house) (rw q tt)))

-- ---- the opening, and the abandonment

-- an opening that is done: user and entry are there, and the entry was not open
pub record Begun (u e : ℕ) (x : Option (Open Body)) : Type 0 where
  pub user : T (not (ltb 7 u))
  pub entry : T (not (ltb 3 e))
  pub closed : x ≡ none

pub begun : (u e : ℕ) (m : Model) (w : Way) → T (is_done (request_on_model (opens w) u e m).answer) → Begun u e (get_or m.house.openings (entry_of u e) none)
unfolding request_on_model entry_gate user_gate refuse◌when◌else◌ settle
begun u e m w t =
    let r = go (ltb 7 u) (ltb 3 e) (get_or m.house.openings i none) t in
    record { user = r.0; entry = r.1; closed = r.2 }
  where
    i : ℕ
    i = entry_of u e

    go : (a b : Bool) (x : Option (Open Body))
        → T (is_done (settle m (refuse 1 when a else refuse 2 when b else judged m i (opens w) u x)).answer)
        → T (not a) × T (not b) × x ≡ none
    go true b x t = absurd t
    go false true x t = absurd t
    go false false none t = (tt, tt, refl)
    go false false (some x) t = absurd t

pub abandoned : (u e : ℕ) (m : Model) → T (not (ltb 7 u)) → T (not (ltb 3 e)) → (request_on_model abandons u e m).after ≡ emptied (entry_of u e) m
unfolding request_on_model entry_gate user_gate refuse◌when◌else◌ settle
abandoned u e m hu he = go (ltb 7 u) (ltb 3 e) (get_or m.house.openings i none) refl hu he
  where
    i : ℕ
    i = entry_of u e

    go : (a b : Bool) (x : Option (Open Body)) → get_or m.house.openings i none ≡ x → T (not a) → T (not b)
        → (settle m (refuse 1 when a else refuse 2 when b else judged m i abandons u x)).after ≡ emptied i m
    go true b x q hu he = absurd hu
    go false true x q hu he = absurd he
    go false false none q hu he = sym (emptied-closed m i q)
    go false false (some x) q hu he = refl
