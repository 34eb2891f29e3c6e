-- A request by another entry, not answered 9 or 14, has the same outcome where the entry i is emptied. Assumes nothing.
use Rattle.std.specs.Prelude.{ℕ, ◌≤◌, ◌≡◌, ◌≢◌, true, not, ◌&&◌, T, eqb, get_or, set}
use Rattle.std.proofs.Common.{arith, sym, ◌∙◌, subst, T_not, get_or-set_other}
use Rattle.std.proofs.Math.Path.{refl, ap}
use Rattle.std.proofs.Math.Option.{Option, none}
use mathlib.Core.List.{List, map}
use Rattle.std.proofs.Math.Dec.{eqb_refl}
use Rattle.std.proofs.lemmas.List.{set_comm}
use Rattle.combine.specs.Verdict.{Verdict, refused, done, on_done}
use Rattle.combine.specs.Outcome.{Outcome, outcome_of, settle}
use Rattle.combine.specs.Laws.Verdict.{Refuses}
use Rattle.placing.specs.Sizes.{greatest_entry, entry_of}
use Rattle.rules.specs.Calls.{Request}
use Rattle.rules.specs.Headings.{Open, head_of, handle_of}
use Rattle.rules.specs.Effects.{Effect, opens_new, opens_old, ended, unfiled, filed, used}
use Rattle.rules.specs.Gates.{entry_gate}
use Rattle.rules.specs.Laws.Gates.{gate-related}
use Rattle.rules.specs.House.{Change, house, refiled, changed}
use Rattle.rules.specs.Levels.{perform, ruled, or_blank}
use Rattle.model.specs.Model.{Body, Files, Model, model, model_level}
use Rattle.model.specs.Step.{perform_on_model, request_on_model}
use Rattle.demands.specs.Abandoning.{crowded}
use Rattle.combine.specs.Laws.Tests.{and_intro}
use Rattle.proof_demand3.specs.Eased.{emptied_house, emptied, others_in, eased}
use Rattle.proof_demand3.specs.Calm.{Calm, rule-eased}

-- the same answer, and the entry is emptied afterwards
abbrev pub carried : ℕ → Outcome Model → Outcome Model
carried i o = outcome_of o.answer (emptied i o.after)

-- the verdict on request r of user v, whose entry j has x; and what it does
abbrev pub judged : Model → ℕ → Request → ℕ → Option (Open Body) → Verdict (ℕ × Model)
judged m j r v x = on_done (perform_on_model m j (or_blank model_level x)) (ruled model_level r v m.house x)

-- ---- the effect, by entry j

perform-alike : (i : ℕ) (h : Files) (x : Open Body) (f : Effect) → perform model_level (emptied_house i h) x f ≡ perform model_level h x f
perform-alike i h x (opens_new n) = refl
perform-alike i h x (opens_old p n) = refl
perform-alike i h x ended = refl
perform-alike i h x (unfiled p) = refl
perform-alike i h x (filed p r) = refl
perform-alike i h x (used u) = refl

module _ (i j : ℕ) (apart : j ≢ i) (m : Model) where
  settle-another : (x : Open Body) (v : Verdict Effect)
      → settle (emptied i m) (on_done (perform_on_model (emptied i m) j x) v) ≡ carried i (settle m (on_done (perform_on_model m j x) v))
  unfolding settle
  settle-another x (refused n) = refl
  settle-another x (done f) =
      let c : Change (List ℕ) Body = perform model_level m.house x f in
      ap (λ (d : Change (List ℕ) Body). outcome_of (done d.answer) (model m.cells (changed (emptied_house i m.house) j d))) (perform-alike i m.house x f)
      ∙ ap (λ (l : List (Option (Open Body))). outcome_of (done c.answer) (model m.cells (house m.house.segments (refiled m.house.records c.filing) l)))
      (set_comm m.house.openings i j none c.entry (λ e. apart (sym e)))

calm-settled : (m : Model) (g : Effect → ℕ × Model) (v : Verdict Effect) → T (not (crowded (settle m (on_done g v)).answer)) → Refuses Calm v
unfolding settle
calm-settled m g (refused n) t = t
calm-settled m g (done f) t = tt

-- ---- the gate

gate-another : (i : ℕ) (m : Model) (u e : ℕ) (v w : Verdict (ℕ × Model))
    → (e ≤ greatest_entry → T (not (crowded (settle m v).answer)) → settle (emptied i m) w ≡ carried i (settle m v))
    → T (not (crowded (settle m (entry_gate true u e v)).answer)) → settle (emptied i m) (entry_gate true u e w) ≡ carried i (settle m (entry_gate true u e v))
unfolding settle
gate-another i m u e v w h =
    gate-related (λ v w. T (not (crowded (settle m v).answer)) → settle (emptied i m) w ≡ carried i (settle m v)) (λ n t. refl) true u e v w (λ hu he. h he)

-- ---- the request

pub entries-apart : (u e v d : ℕ) → e ≤ greatest_entry → T (not (eqb u v && eqb e d)) → d ≤ greatest_entry → entry_of v d ≢ entry_of u e
entries-apart u e v d le h ld q =
    T_not (eqb u v && eqb e d) h (and_intro (eqb u v) (eqb e d) (test u v (omega arith)) (test e d (omega arith)))
  where
    test : (a b : ℕ) → a ≡ b → T (eqb a b)
    test a b p = subst (λ (c : ℕ). T (eqb a c)) p (eqb_refl a)

pub request-another : (u e : ℕ) (m : Model) (v d : ℕ) (r : Request) → e ≤ greatest_entry → T (not (eqb u v && eqb e d)) → T (not (crowded (request_on_model r v d m).answer))
    → request_on_model r v d (emptied (entry_of u e) m) ≡ carried (entry_of u e) (request_on_model r v d m)
unfolding request_on_model
request-another u e m v d r le other t = gate-another i m v d _ _ inside t
  where
    i : ℕ
    i = entry_of u e

    j : ℕ
    j = entry_of v d

    mine : Option (Open Body)
    mine = get_or m.house.openings j none

    inside : d ≤ greatest_entry → T (not (crowded (settle m (judged m j r v mine)).answer))
        → settle (emptied i m) (judged (emptied i m) j r v (get_or (set m.house.openings i none) j none)) ≡ carried i (settle m (judged m j r v mine))
    inside hd calmly =
        let apart = entries-apart u e v d le other hd in
        ap (λ (x : Option (Open Body)). settle (emptied i m) (judged (emptied i m) j r v x)) (get_or-set_other m.house.openings i j none none apart)
        ∙ ap (λ (w : Verdict Effect). settle (emptied i m) (on_done (perform_on_model (emptied i m) j (or_blank model_level mine)) w))
        (rule-eased v (others_in m.house) (others_in (emptied_house i m.house)) (eased i m.house) r
        (map head_of m.house.records) (handle_of mine) (model_level.takes m.house (or_blank model_level mine)) (calm-settled m (perform_on_model m j (or_blank model_level mine)) (ruled model_level r v m.house mine) calmly))
        ∙ settle-another i j apart m (or_blank model_level mine) (ruled model_level r v m.house mine)
