-- "Every refusal leaves store, tables and image buffer as they stood"; and a promise that is an equation of outcomes "admits one outcome".
-- Assumes nothing.
use Rattle.std.specs.Prelude.{ℕ, ◌≡◌, refl, false, List}
use Rattle.std.proofs.Common.{sym, ap, ◌∙◌}
use Rattle.answers.specs.Said.{Answer, said}
use Rattle.combine.specs.Verdict.{is_done}
use Rattle.answers.specs.Laws.Said.{one_answer}
use Rattle.combine.specs.Outcome.{Outcome, outcome_of}
use Rattle.combine.specs.Laws.Outcome.{refusal-keeps}
use Rattle.rules.specs.Calls.{fresh, load, save, tidy, Call, starts, asks, arranges, on, runs}
use Rattle.cells.specs.Outcomes.{Lent, lent, outcome, Saved, saved, call_out, call_image, request_out, fresh_out, load_out, save_out, tidy_out}
use Rattle.cells.specs.Laws.Runs.{run-refusal}

pub refusal-keeps-cells : (c : Call) (s t : List ℕ) → is_done (call_out c s t).answer ≡ false → (call_out c s t).after ≡ lent s t
unfolding request_out fresh_out load_out tidy_out
refusal-keeps-cells (starts fresh) s t e = refusal-keeps _ _ e
refusal-keeps-cells (starts (load img)) s t e = refusal-keeps _ _ e
refusal-keeps-cells (asks q) s t e = refl
refusal-keeps-cells (arranges tidy) s t e = refusal-keeps _ _ e
refusal-keeps-cells (on u k r) s t e = refusal-keeps _ _ e
refusal-keeps-cells (runs u k r) s t e = run-refusal s t u k r e

pub refusal-keeps-image : (img s t : List ℕ) → is_done (call_out (asks (save img)) s t).answer ≡ false → call_image (asks (save img)) s t ≡ img
unfolding save_out
refusal-keeps-image img s t e = ap (λ (x : Saved). x.image) (refusal-keeps _ _ e)

-- ---- one outcome, over any kind of state; of store and tables; of store, tables and image buffer

pub same_outcome : {S : Type 0} (o : Outcome S) (a b : Answer) (x y : S) → outcome_of (said a) x ≡ o → outcome_of (said b) y ≡ o → (a ≡ b) × (x ≡ y)
same_outcome {S} o a b x y p q =
    let e : outcome_of (said a) x ≡ outcome_of (said b) y = p ∙ sym q in
    (one_answer a b (ap (λ (z : Outcome S). z.answer) e), ap (λ (z : Outcome S). z.after) e)

pub one-outcome : (o : Outcome Lent) (a b : Answer) (s s' t t' : List ℕ) → outcome a s t ≡ o → outcome b s' t' ≡ o → (a ≡ b) × (s ≡ s') × (t ≡ t')
one-outcome o a b s s' t t' p q =
    let e = same_outcome o a b (lent s t) (lent s' t') p q in
    (e.0, ap (λ (x : Lent). x.store) e.1, ap (λ (x : Lent). x.tables) e.1)

pub one-outcome-saved : (o : Outcome Saved) (a b : Answer) (s s' t t' img img' : List ℕ) → outcome_of (said a) (saved s t img) ≡ o → outcome_of (said b) (saved s' t' img') ≡ o
    → (a ≡ b) × (s ≡ s') × (t ≡ t') × (img ≡ img')
one-outcome-saved o a b s s' t t' img img' p q =
    let e = same_outcome o a b (saved s t img) (saved s' t' img') p q in
    (e.0, ap (λ (x : Saved). x.cells.store) e.1, ap (λ (x : Saved). x.cells.tables) e.1, ap (λ (x : Saved). x.image) e.1)
