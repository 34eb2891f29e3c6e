-- A run by another entry, not stopped by 9 or 14, is the same where the entry i is emptied; a run by the entry itself changes nothing but the
-- entry. Assumes nothing.
use Rattle.std.specs.Prelude.{ℕ, ◌≤◌, ◌≡◌, not, ◌&&◌, List, map, T, eqb}
use Rattle.std.proofs.Math.Path.{refl, ap}
use Rattle.std.proofs.Common.{sym, ◌∙◌, subst, get_or-set_other}
use Rattle.std.proofs.Math.Bool.{true}
use Rattle.std.proofs.Math.Option.{Option, none}
use Rattle.combine.specs.Verdict.{Said, refused}
use Rattle.combine.specs.Outcome.{Outcome}
use Rattle.combine.specs.Run.{Ran, ran, run_over, admitted}
use Rattle.combine.specs.Laws.Verdict.{Refuses, refuses-test}
use Rattle.combine.specs.Laws.Run.{Related, admitted-related, run-related, run-keeps, admitted-keeps, run-map}
use Rattle.placing.specs.Sizes.{greatest_entry, entry_of}
use Rattle.rules.specs.Calls.{Request, Act, uses, write, next, Run, writes, fills}
use Rattle.rules.specs.Headings.{Open, handle_of}
use Rattle.rules.specs.Laws.Gates.{gate-related}
use Rattle.rules.specs.Runs.{requests_of, admits, admission}
use Rattle.model.specs.Model.{Body, Files, Model}
use Rattle.model.specs.Step.{request_on_model, run_on_model}
use Rattle.demands.specs.Abandoning.{crowded}
use Rattle.proof_demand3.specs.Eased.{emptied_house, emptied}
use Rattle.proof_demand3.specs.Calm.{Calm}
use Rattle.proof_demand3.specs.Another.{entries-apart, request-another}
use Rattle.proof_demand3.specs.Own.{request-own}

-- the same is told, and the entry is emptied afterwards
abbrev pub carried_run : ℕ → Ran Model → Ran Model
carried_run i r = ran r.many r.stop r.told (emptied i r.after)

-- "a run stopped by 9 counts as answered "no room"": this one is stopped neither by 9 nor by 14
abbrev pub Unstopped : Ran Model → Type 0
Unstopped r = T (not (crowded (refused r.stop)))

-- ---- by another entry

module _ (u e v d : ℕ) (le : e ≤ greatest_entry) (other : T (not (eqb u v && eqb e d))) where
  abbrev i : ℕ
  i = entry_of u e

  abbrev call : Request → Model → Outcome Model
  call q m = request_on_model q v d m

  -- the one state is the other with the entry emptied
  abbrev Emptied : Model → Model → Type 0
  Emptied m n = n ≡ emptied i m

  one-another : (q : Request) (m n : Model) → Emptied m n → Refuses Calm (call q m).answer → Refuses (λ k. Unit {0}) (call q n).answer
      → ((call q m).answer ≡ (call q n).answer) × Emptied (call q m).after (call q n).after
  one-another q m n s c t =
      let o = ap (call q) s ∙ request-another u e m v d q le other (refuses-test crowded (λ k. tt) (call q m).answer c) in
      (sym (ap (λ (o : Outcome Model). o.answer) o), ap (λ (o : Outcome Model). o.after) o)

  -- what is judged before the first call
  admission-another : (r : Run) (h : Files) → admission true r v d (emptied_house i h) ≡ admission true r v d h
  admission-another r h =
      gate-related ◌≡◌ (λ n. refl) true v d _ _
      (λ hv hd. ap (λ (x : Option (Open Body)). admits r (handle_of x)) (get_or-set_other h.openings i (entry_of v d) none none (entries-apart u e v d le other hd)))

  pub run-another : (r : Run) (m : Model) → Unstopped (run_on_model r v d m) → run_on_model r v d (emptied i m) ≡ carried_run i (run_on_model r v d m)
  unfolding run_on_model
  run-another r m t =
      ap (λ (a : Said). admitted (emptied i m) a (run_over call (requests_of r) (emptied i m))) (admission-another r m.house) ∙ (λ j. ran (sym k.many j) (sym k.stop j) (sym k.told j) (k.after j))
    where
      judged : Said
      judged = admission true r v d m.house

      k : Related Emptied (admitted m judged (run_over call (requests_of r) m)) (admitted (emptied i m) judged (run_over call (requests_of r) (emptied i m)))
      k = admitted-related Emptied Calm (λ k. Unit {0}) m (emptied i m) judged _ _ refl t tt
          (λ s u. run-related Emptied call call Calm (λ k. Unit {0}) one-another (requests_of r) m (emptied i m) refl s tt)

-- ---- by the entry itself

module _ (u e : ℕ) (m : Model) where
  abbrev own : Request → Model → Outcome Model
  own q n = request_on_model q u e n

  -- the entry aside, it is m
  abbrev Same : Model → Type 0
  Same n = emptied (entry_of u e) n ≡ emptied (entry_of u e) m

  -- the single calls are uses, and none of these ends an opening
  calls-own : (f : ℕ → Act) (l : List ℕ) → Same (run_over own (map (λ n. uses (f n)) l) m).after
  calls-own f l =
      subst (λ (r : Ran Model). Same r.after) (sym (run-map (λ (n : ℕ). uses (f n)) own l m))
      (run-keeps (λ (a : ℕ) (n : Model). own (uses (f a)) n) Same (λ a n q. request-own u e n (uses (f a)) tt ∙ q) l m refl)

  pub run-own : (r : Run) → Same (run_on_model r u e m).after
  unfolding run_on_model
  run-own (writes p l) = admitted-keeps Same m (admission true (writes p l) u e m.house) (run_over own (requests_of (writes p l)) m) refl (calls-own (λ n. write p n) l)
  run-own (fills p l) = admitted-keeps Same m (admission true (fills p l) u e m.house) (run_over own (requests_of (fills p l)) m) refl (calls-own (λ n. next p) l)
