-- Any call that is not the user's by the entry, beside the same call where the entry is emptied; and a call where only the store differs in
-- what freed segments were left with. Assumes nothing.
use Rattle.std.specs.Prelude.{ℕ, zero, suc, ◌≤◌, ◌≡◌, refl, Bool, true, false, not, ◌&&◌, ◌||◌, List, [], ◌∷◌, T, leb, set}
use Rattle.std.proofs.Common.{sym, ap, ◌∙◌}
use Rattle.std.proofs.Math.Option.{Option, none, some}
use Rattle.combine.specs.Laws.Below.{not-both}
use Rattle.combine.specs.Lists.{any}
use Rattle.combine.specs.Verdict.{Said, done, refused, is_done, refuse◌when◌else◌}
use Rattle.combine.specs.Outcome.{Outcome, outcome_of, settle}
use Rattle.combine.specs.Run.{Ran}
use Rattle.placing.specs.Sizes.{entry_of}
use Rattle.rules.specs.Calls.{fresh, load, save, count, Run, writes, fills, tidy, Call, starts, asks, arranges, on, runs}
use Rattle.rules.specs.Headings.{is_some}
use Rattle.rules.specs.Gates.{start_gate, image_gate, still_gate}
use Rattle.rules.specs.House.{closed_down, has_open}
use Rattle.rules.specs.Runs.{run_answer, run_told}
use Rattle.model.specs.Model.{Model}
use Rattle.model.specs.Step.{Look, report, arrange_model, run_on_model, step, step_run, step_told}
use Rattle.demands.specs.Hearing.{left_fate, later_fate, hear}
use Rattle.demands.specs.Laws.Hearing.{unstopped, count-heard, tidy-heard}
use Rattle.demands.specs.Abandoning.{is_on, ends, crowded, quiet, is_load}
use Rattle.combine.specs.Laws.Tests.{false_of, nor-second, and_first, and_second}
use Rattle.proof_demand3.specs.Eased.{emptied}
use Rattle.proof_demand3.specs.Another.{carried, request-another}
use Rattle.proof_demand3.specs.Runs.{carried_run, run-another}
use Rattle.proof_demand3.specs.Steps.{SameLook, answered_in, Carried, Followed}

-- ---- nothing is open

none-set : {A : Type 0} (l : List (Option A)) (i : ℕ) → T (not (any is_some l)) → T (not (any is_some (set l i none)))
none-set [] i t = t
none-set (x ∷ xs) zero t = nor-second (is_some x) (any is_some xs) t
none-set (none ∷ xs) (suc i) t = none-set xs i t
none-set (some x ∷ xs) (suc i) t = absurd t

-- ---- a start that is refused

fresh-refused : (m n : Model) (i : ℕ) (b : Bool) → T (not (is_done (settle m (start_gate b (done (0, n)))).answer))
    → settle (emptied i m) (start_gate b (done (0, n))) ≡ carried i (settle m (start_gate b (done (0, n))))
unfolding start_gate refuse◌when◌else◌ settle
fresh-refused m n i true t = absurd t
fresh-refused m n i false t = refl

load-refused : (f : Model → Model) (m n o : Model) (a b : Bool) → T (not (is_done (settle m (image_gate a b (done (0, n)))).answer))
    → settle (f m) (image_gate a b (done (0, o))) ≡ outcome_of (settle m (image_gate a b (done (0, n)))).answer (f (settle m (image_gate a b (done (0, n)))).after)
unfolding image_gate start_gate refuse◌when◌else◌ settle
load-refused f m n o true true t = absurd t
load-refused f m n o true false t = refl
load-refused f m n o false b t = refl

-- whatever the state has beside the number of cells
load-alike : (f g : Look) (h : Model → Model) (m n o : Model) (img : List ℕ) → SameLook f g
    → T (not (is_done (settle m (image_gate (leb 64 m.cells) (is_some (f.files img)) (done (0, n)))).answer))
    → settle (h m) (image_gate (leb 64 m.cells) (is_some (g.files img)) (done (0, o)))
    ≡ outcome_of (settle m (image_gate (leb 64 m.cells) (is_some (f.files img)) (done (0, n)))).answer (h (settle m (image_gate (leb 64 m.cells) (is_some (f.files img)) (done (0, n)))).after)
load-alike f g h m n o img same t =
    ap (λ (b : Bool). settle (h m) (image_gate (leb 64 m.cells) b (done (0, o)))) (same img) ∙ load-refused h m n o (leb 64 m.cells) (is_some (f.files img)) t

-- ---- a call that is not the user's by the entry

pub goes-on : (u e : ℕ) (c : Call) (a : Said) → T (quiet u e c a) → T (not (ends u e c && is_done a))
goes-on u e c a q = and_first (not (ends u e c && is_done a)) (is_on u e c || not (crowded a)) q

uncrowded : (u e : ℕ) (c : Call) (a : Said) → is_on u e c ≡ false → T (quiet u e c a) → T (not (crowded a))
uncrowded u e c a other q = go (is_on u e c) other (and_second (not (ends u e c && is_done a)) (is_on u e c || not (crowded a)) q)
  where
    go : (b : Bool) → b ≡ false → T (b || not (crowded a)) → T (not (crowded a))
    go true n t = absurd (not-both refl n)
    go false n t = t

whole-carried : (i : ℕ) (c : Call) (f g : Look) (m : Model) → step g c (emptied i m) ≡ carried i (step f c m) → step_run c (emptied i m) ≡ step_run c m → Carried i c f g m
whole-carried i c f g m e same = record {
  after = ap (λ (o : Outcome Model). o.after) e;
  told = sym (λ k. hear (left_fate c) (report c (e k).answer (some (closed_down m.house)) (same k)));
}

run-carried : (i v d : ℕ) (r : Run) (f g : Look) (m : Model) → run_on_model r v d (emptied i m) ≡ carried_run i (run_on_model r v d m) → Carried i (runs v d r) f g m
run-carried i v d r f g m e = whole-carried i (runs v d r) f g m (ap (λ (q : Ran Model). outcome_of (run_answer q) q.after) e) (go r e)
  where
    go : (r : Run) → run_on_model r v d (emptied i m) ≡ carried_run i (run_on_model r v d m) → step_run (runs v d r) (emptied i m) ≡ step_run (runs v d r) m
    go (writes p l) e = ap (run_told (writes p l)) e
    go (fills p l) e = ap (run_told (fills p l)) e

-- a tidying that is not refused 14 finds nothing open, and so it does where an entry is emptied
none-open-still : (i : ℕ) (f : Look) (m : Model) → T (not (crowded (arrange_model f tidy m))) → has_open m.house ≡ has_open (emptied i m).house
unfolding still_gate start_gate refuse◌when◌else◌
none-open-still i f m t = go (has_open m.house) refl t
  where
    go : (b : Bool) → has_open m.house ≡ b → T (not (crowded (refuse 14 when b else done f.copies))) → has_open m.house ≡ has_open (emptied i m).house
    go true e t = absurd t
    go false e t = e ∙ sym (false_of (has_open (emptied i m).house) (none-set m.house.openings i (rw e tt)))

pub step-another : (u e : ℕ) (f g : Look) (m : Model) (c : Call) → e ≤ 3 → SameLook f g → is_on u e c ≡ false → T (quiet u e c (answered_in (step_told f c m)))
    → Carried (entry_of u e) c f g m
step-another u e f g m (starts fresh) le same other q =
    whole-carried (entry_of u e) (starts fresh) f g m (fresh-refused m _ (entry_of u e) (leb 64 m.cells) (goes-on u e (starts fresh) (step f (starts fresh) m).answer q)) refl
step-another u e f g m (starts (load img)) le same other q =
    whole-carried (entry_of u e) (starts (load img)) f g m
    (load-alike f g (emptied (entry_of u e)) m _ _ img same (goes-on u e (starts (load img)) (step f (starts (load img)) m).answer q)) refl
step-another u e f g m (asks (save img)) le same other q = whole-carried (entry_of u e) (asks (save img)) f g m refl refl
step-another u e f g m (asks (count v)) le same other q = record { after = refl; told = count-heard v m (emptied (entry_of u e) m) }
step-another u e f g m (arranges tidy) le same other q =
    record { after = refl; told = tidy-heard f g m (emptied (entry_of u e) m) (none-open-still (entry_of u e) f m (uncrowded u e (arranges tidy) (arrange_model f tidy m) other q)) }
step-another u e f g m (on v d r) le same other q =
    whole-carried (entry_of u e) (on v d r) f g m (request-another u e m v d r le (rw other tt) (uncrowded u e (on v d r) (step f (on v d r) m).answer other q)) refl
step-another u e f g m (runs v d r) le same other q =
    run-carried (entry_of u e) v d r f g m
    (run-another u e v d le (rw other tt) r m (unstopped crowded (run_on_model r v d m).stop (run_answer (run_on_model r v d m)) tt (uncrowded u e (runs v d r) (answered_in (step_told f (runs v d r) m)) other q)))

-- ---- a call on the same state, beside another store

whole-followed : (c : Call) (f g : Look) (m : Model) → step g c m ≡ step f c m → Followed c f g m
whole-followed c f g m e = record {
  after = ap (λ (o : Outcome Model). o.after) e;
  told = sym (ap (λ (o : Outcome Model). hear (later_fate c) (report c o.answer (some (closed_down m.house)) (step_run c m))) e);
}

pub step-alike : (f g : Look) (m : Model) (c : Call) → SameLook f g → T (not (is_load c && is_done (step f c m).answer)) → Followed c f g m
step-alike f g m (starts fresh) same q = record { after = refl; told = refl }
step-alike f g m (starts (load img)) same q = whole-followed (starts (load img)) f g m (load-alike f g (λ n. n) m _ _ img same q)
step-alike f g m (asks q) same n = record { after = refl; told = refl }
step-alike f g m (arranges tidy) same q = record { after = refl; told = tidy-heard f g m m refl }
step-alike f g m (on u e r) same q = record { after = refl; told = refl }
step-alike f g m (runs u e r) same q = record { after = refl; told = refl }
