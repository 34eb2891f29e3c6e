-- What the answers of a history show of a story. Assumes nothing.
use Rattle.std.specs.Prelude.{ℕ, ◌≡◌, Bool, true, not, List, [], ◌∷◌, T, leb, eqb, get_or}
use Rattle.std.proofs.Common.{sym, ap, ◌∙◌, subst, T_not}
use Rattle.std.proofs.Math.Option.{none}
use Rattle.std.proofs.Math.Dec.{eqb_refl}
use Rattle.combine.specs.Verdict.{Said, done, refused}
use Rattle.placing.specs.Sizes.{least_store}
use Rattle.rules.specs.Calls.{Call}
use Rattle.rules.specs.Runs.{no_run}
use Rattle.cells.specs.Outcomes.{Lent}
use Rattle.model.specs.Step.{Report}
use Rattle.demands.specs.History.{told_all}
use Rattle.demands.specs.Hearing.{heard}
use Rattle.demands.specs.Abandoning.{Story, whole, rest, whole_fates, rest_fates, NoTrace}
use Rattle.examples.specs.Holding.{answers_on, runs_on}
use Rattle.proof_examples.specs.Fresh.{nothing_there}
use Rattle.proof_examples.specs.Known.{no_lookb, answers_known, answers-known, runs_known, runs-known}
use Rattle.proof_demand3.specs.Started.{started_over, started-sound, started-known}

-- after a fresh start over so many zero cells
pub answers-started : (n : ℕ) → leb 64 n ≡ true → (cs : List Call) → T (no_lookb cs) → answers_on cs (started_over n) ≡ answers_known cs (nothing_there n)
answers-started n large cs l = answers-known cs (started_over n) (started-sound n large) l ∙ ap (answers_known cs) (started-known n large)

pub runs-started : (n : ℕ) → leb least_store n ≡ true → (cs : List Call) → T (no_lookb cs) → runs_on cs (started_over n) ≡ runs_known cs (nothing_there n)
runs-started n large cs l = runs-known cs (started_over n) (started-sound n large) l ∙ ap (runs_known cs) (started-known n large)

-- ---- a test of each call and its answer

abbrev pub Passed : (Call → Said → Bool) → List Call → List Said → Type 0
Passed f [] l = Unit {0}
Passed f (c ∷ cs) [] = ⊥
Passed f (c ∷ cs) (a ∷ l) = T (f c a) × Passed f cs l

-- ---- one call that stays and is answered otherwise is a trace

-- the answer to the kth of the calls that stay
abbrev pub heard_at : ℕ → List Report → Said
heard_at k l = (get_or l k (record { answer = done 0; image = none; run = no_run })).answer

pub answered-otherwise : (h : Story) (x : Lent) (k : ℕ) (a b : Said)
    → heard_at k (heard (whole_fates h) (told_all (whole h) x)) ≡ a → heard_at k (heard (rest_fates h) (told_all (rest h) x)) ≡ b → (a ≡ b → ⊥) → NoTrace h x → ⊥
answered-otherwise h x k a b with without otherwise n = otherwise (sym with ∙ ap (heard_at k) n.same_answers ∙ without)

-- done with another number
pub numbers-differ : (m n : ℕ) → T (not (eqb m n)) → ◌≡◌ {A = Said} (done m) (done n) → ⊥
numbers-differ m n t e = T_not (eqb m n) t (subst (λ (k : ℕ). T (eqb m k)) (ap number e) (eqb_refl m))
  where
    number : Said → ℕ
    number (refused k) = k
    number (done k) = k
