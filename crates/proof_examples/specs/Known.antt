-- Calls one after another as users know the state, where no call is answered from the cells, beside the same calls on cells. Assumes nothing.
use Rattle.std.specs.Prelude.{ℕ, ◌≡◌, refl, Bool, true, not, ◌&&◌, ◌||◌, List, [], ◌∷◌, map, T, leb, ℤ, pos}
use Rattle.std.proofs.Common.{ap, ap₂, ◌∙◌}
use Rattle.std.proofs.Math.Option.{none, some}
use Rattle.combine.specs.Verdict.{Verdict, Said, done, on_done, refuse◌when◌else◌}
use Rattle.combine.specs.Outcome.{Outcome, settle}
use Rattle.combine.specs.Run.{run_over}
use Rattle.numbers.specs.Numbers.{signed_of, signed_bits, out_of_range}
use Rattle.names.specs.Names.{symbols_of, name_of, scratch_name, is_scratch}
use Rattle.placing.specs.Placing.{stretch_of, offset_of, held_of, claim_of, slot_of}
use Rattle.placing.specs.Sizes.{least_store, width_of, elements_of}
use Rattle.rules.specs.Calls.{fresh, load, Call, starts, asks, arranges, on, runs}
use Rattle.rules.specs.Access.{write_rule, next_rule, prev_rule, new_pointer_rule, value_rule, rename_rule}
use Rattle.rules.specs.Rules.{look_up, open_new, opened_as, open_old, headed, close_rule}
use Rattle.rules.specs.Gates.{user_gate, entry_gate, start_gate, image_gate}
use Rattle.rules.specs.House.{closed_down}
use Rattle.rules.specs.Runs.{RunTold, no_run}
use Rattle.cells.specs.Outcomes.{Lent, lent}
use Rattle.model.specs.Model.{Model, free}
use Rattle.model.specs.Step.{Look, Report, report, step, step_run, step_told, request_on_model, run_on_model}
use Rattle.combine.specs.Laws.Tests.{and_first, and_second}
use Rattle.proof_calls_sound.specs.Keeps.{keeps-sound}
use Rattle.demands.specs.History.{outcome_on, after_call, told_of, look_on, view_on, final}
use Rattle.demands.specs.Demands.{Sound}
use Rattle.demands.specs.Hearing.{is_arranging}
use Rattle.demands.specs.Abandoning.{is_load}
use Rattle.proof_demand2.specs.Demand2.{told-known, after-known}
use Rattle.examples.specs.Holding.{answers_on, AnswersSo, GivesSo, runs_on, TellsSo}
use Rattle.proof_examples.specs.Fresh.{nothing_there, fresh-is-done, fresh-leaves-sound, fresh-leaves-nothing}

-- the cells are not looked at
abbrev pub blind : Look
blind = record { files = λ img. none; copies = 0 }

-- the call is answered from the cells: it loads an image, or counts what is copied
abbrev pub looks : Call → Bool
looks c = is_load c || is_arranging c

abbrev pub no_lookb : List Call → Bool
no_lookb [] = true
no_lookb (c ∷ cs) = not (looks c) && no_lookb cs

-- ---- one call

step-blind : (look : Look) (c : Call) (m : Model) → T (not (looks c)) → step look c m ≡ step blind c m
step-blind f (starts fresh) m n = refl
step-blind f (starts (load img)) m n = absurd n
step-blind f (asks q) m n = refl
step-blind f (arranges q) m n = absurd n
step-blind f (on u e r) m n = refl
step-blind f (runs u e r) m n = refl

module _ (c : Call) (x : Lent) (s : Sound x) (n : T (not (looks c))) where
  pub told-blind : told_of c x ≡ step_told blind c (view_on x)
  told-blind =
      told-known c x s
      ∙ ap (λ (o : Outcome Model). report c o.answer (some (closed_down (view_on x).house)) (step_run c (view_on x))) (step-blind (look_on x) c (view_on x) n)

  pub answer-blind : (outcome_on c x).answer ≡ (step blind c (view_on x)).answer
  answer-blind = ap (λ (r : Report). r.answer) told-blind

  pub after-blind : view_on (after_call c x) ≡ (step blind c (view_on x)).after
  after-blind = after-known c x s ∙ ap (λ (o : Outcome Model). o.after) (step-blind (look_on x) c (view_on x) n)

-- ---- the answers of a history

-- what unfolds this unfolds every definition that the answers rest on
unfoldable pub answers_known : List Call → Model → List Said
unfolding refuse◌when◌else◌ settle signed_bits out_of_range symbols_of name_of scratch_name is_scratch stretch_of offset_of held_of claim_of slot_of width_of elements_of write_rule next_rule prev_rule new_pointer_rule value_rule rename_rule look_up open_new opened_as open_old headed close_rule user_gate entry_gate start_gate image_gate free request_on_model run_over run_on_model
answers_known [] m = []
answers_known (c ∷ cs) m = (step blind c m).answer ∷ answers_known cs (step blind c m).after

pub answers-known : (cs : List Call) (x : Lent) → Sound x → T (no_lookb cs) → answers_on cs x ≡ answers_known cs (view_on x)
unfolding answers_known
answers-known [] x s n = refl
answers-known (c ∷ cs) x s n =
    let one = and_first (not (looks c)) (no_lookb cs) n in
    let later = answers-known cs (after_call c x) (keeps-sound c x s) (and_second (not (looks c)) (no_lookb cs) n) in
    ap₂ {C = List Said} (λ a l. a ∷ l) (answer-blind c x s one) (later ∙ ap (answers_known cs) (after-blind c x s one))

-- ---- what users know after a history

abbrev pub known_after : List Call → Model → Model
known_after [] m = m
known_after (c ∷ cs) m = known_after cs (step blind c m).after

pub final-known : (cs : List Call) (x : Lent) → Sound x → T (no_lookb cs) → (view_on (final cs x) ≡ known_after cs (view_on x)) × Sound (final cs x)
final-known [] x s n = (refl, s)
final-known (c ∷ cs) x s n =
    let one = and_first (not (looks c)) (no_lookb cs) n in
    let r = final-known cs (after_call c x) (keeps-sound c x s) (and_second (not (looks c)) (no_lookb cs) n) in
    (r.0 ∙ ap (known_after cs) (after-blind c x s one), r.1)

-- ---- what the runs of a history tell

unfoldable pub runs_known : List Call → Model → List RunTold
unfolding answers_known
runs_known [] m = []
runs_known (c ∷ cs) m = step_run c m ∷ runs_known cs (step blind c m).after

pub runs-known : (cs : List Call) (x : Lent) → Sound x → T (no_lookb cs) → runs_on cs x ≡ runs_known cs (view_on x)
unfolding runs_known
runs-known [] x s n = refl
runs-known (c ∷ cs) x s n =
    let one = and_first (not (looks c)) (no_lookb cs) n in
    let later = runs-known cs (after_call c x) (keeps-sound c x s) (and_second (not (looks c)) (no_lookb cs) n) in
    ap₂ {C = List RunTold} (λ a l. a ∷ l) (ap (λ (r : Report). r.run) (told-blind c x s one)) (later ∙ ap (runs_known cs) (after-blind c x s one))

-- ---- after a fresh start over n cells

pub answers-after : (n : ℕ) (calls : List Call) (said : List Said) → leb 64 n ≡ true → T (no_lookb calls) → answers_known calls (nothing_there n) ≡ said
    → AnswersSo n (starts fresh ∷ calls) (done 0 ∷ said)
unfolding AnswersSo
answers-after n calls said large none-loaded e s t cells long =
    ap₂ {C = List Said} (λ a l. a ∷ l) (fresh-is-done s t n cells large long)
    (answers-known calls (after_call (starts fresh) (lent s t)) (fresh-leaves-sound s t n cells large long) none-loaded
    ∙ ap (answers_known calls) (fresh-leaves-nothing s t n cells large long) ∙ e)

pub gives_after : (n : ℕ) (calls : List Call) (given : List (Verdict ℤ)) → leb 64 n ≡ true → T (no_lookb calls) → map (on_done signed_of) (answers_known calls (nothing_there n)) ≡ given
    → GivesSo n (starts fresh ∷ calls) (done (pos 0) ∷ given)
unfolding GivesSo AnswersSo signed_of
gives_after n calls given large none-loaded e s t cells long =
    ap (map (on_done signed_of)) (answers-after n calls (answers_known calls (nothing_there n)) large none-loaded refl s t cells long) ∙ ap (λ (l : List (Verdict ℤ)). done (pos 0) ∷ l) e

pub runs_after : (n : ℕ) (calls : List Call) (told : List RunTold) → leb least_store n ≡ true → T (no_lookb calls) → runs_known calls (nothing_there n) ≡ told
    → TellsSo n (starts fresh ∷ calls) (no_run ∷ told)
unfolding TellsSo
runs_after n calls told large none-loaded e s t cells long =
    ap (λ (l : List RunTold). no_run ∷ l)
    (runs-known calls (after_call (starts fresh) (lent s t)) (fresh-leaves-sound s t n cells large long) none-loaded
    ∙ ap (runs_known calls) (fresh-leaves-nothing s t n cells large long) ∙ e)
