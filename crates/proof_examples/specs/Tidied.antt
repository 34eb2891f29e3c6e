-- The answers of a history in which segments are tidied once: before and after it they are found as users know the state, which stays, and its own
-- number on segments. Assumes nothing.
use Rattle.std.specs.Prelude.{ℕ, ◌≡◌, refl, true, false, T, leb}
use Rattle.std.proofs.Common.{sym, ◌∙◌}
use Rattle.std.proofs.Math.Path.{ap, ap₂}
use mathlib.Core.List.{List, [], ◌∷◌, ◌++◌}
use Rattle.combine.specs.Verdict.{Said, done}
use Rattle.combine.specs.Outcome.{Outcome}
use Rattle.placing.specs.Sizes.{least_store}
use Rattle.rules.specs.Calls.{fresh, Call, starts}
use Rattle.rules.specs.House.{has_open, fresh_house}
use Rattle.segments.specs.Free.{SegmentHouse}
use Rattle.segments.specs.Moves.{tidy_count}
use Rattle.segments.specs.State.{State}
use Rattle.cells.specs.Says.{house_of}
use Rattle.cells.specs.Outcomes.{Lent, lent}
use Rattle.proof_calls_sound.specs.Keeps.{keeps-sound}
use Rattle.proof_moves.specs.Outcome.{tidy-done}
use Rattle.proof_moves.specs.Proved.{tidy-keeps}
use Rattle.demands.specs.History.{outcome_on, after_call, final}
use Rattle.demands.specs.Demands.{Sound}
use Rattle.demands.specs.Tidying.{tidying}
use Rattle.examples.specs.Holding.{answers_on, AnswersSo}
use Rattle.proof_examples.specs.Fresh.{nothing_there, fresh-is-done, fresh-leaves-sound, fresh-leaves-nothing, fresh-leaves-state}
use Rattle.proof_examples.specs.Known.{no_lookb, answers_known, answers-known, known_after, final-known}
use Rattle.proof_examples.specs.Saved.{Leads, after-says}

answers-joined : (cs ds : List Call) (x : Lent) → answers_on (cs ++ ds) x ≡ answers_on cs x ++ answers_on ds (final cs x)
answers-joined [] ds x = refl
answers-joined (c ∷ cs) ds x = ap (λ (l : List Said). (outcome_on c x).answer ∷ l) (answers-joined cs ds (after_call c x))

-- with nothing open, the number is that of the segments
pub tidy-said : (x : Lent) (h : SegmentHouse) → Sound x → house_of x.tables ≡ h → has_open h ≡ false → (outcome_on tidying x).answer ≡ done (tidy_count h)
tidy-said x h sound says still =
    sym (ap (λ (o : Outcome Lent). o.answer) (tidy-done x.store x.tables sound (ap has_open says ∙ still))) ∙ ap (λ (g : SegmentHouse). done (tidy_count g)) says

-- after a fresh start over n cells the calls before lead to h
module _ (n : ℕ) (before later : List Call) (h : SegmentHouse) (large : leb least_store n ≡ true) (leads : Leads (fresh_house n) before h) (still : has_open h ≡ false) where
  pub answers-tidied : (first last : List Said) (count : ℕ) → T (no_lookb before) → T (no_lookb later) → answers_known before (nothing_there n) ≡ first → tidy_count h ≡ count
      → answers_known later (known_after before (nothing_there n)) ≡ last → AnswersSo n (starts fresh ∷ (before ++ tidying ∷ later)) (done 0 ∷ (first ++ done count ∷ last))
  unfolding AnswersSo
  answers-tidied first last count lookless blind ef ec el s t cells long =
      let x = after_call (starts fresh) (lent s t) in
      let sound = fresh-leaves-sound s t n cells large long in
      let known = fresh-leaves-nothing s t n cells large long in
      let says = ap (λ (m : State). m.house) (fresh-leaves-state s t n cells large long) in
      let y = final before x in
      let there = final-known before x sound lookless in
      let said : (outcome_on tidying y).answer ≡ done count = tidy-said y h there.1 (after-says (fresh_house n) before h leads x sound says) still ∙ ap done ec in
      let rest : answers_on later (after_call tidying y) ≡ last =
      answers-known later (after_call tidying y) (keeps-sound tidying y there.1) blind ∙ ap (answers_known later) (tidy-keeps y ∙ there.0 ∙ ap (known_after before) known) ∙ el in
      ap₂ {C = List Said} (λ a l. a ∷ l) (fresh-is-done s t n cells large long)
      (answers-joined before (tidying ∷ later) x
      ∙ ap₂ {C = List Said} (λ k l. k ++ l) (answers-known before x sound lookless ∙ ap (answers_known before) known ∙ ef) (ap₂ {C = List Said} (λ a l. a ∷ l) said rest))
