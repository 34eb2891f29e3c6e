-- Demand 3 needs that no image is loaded after the opening. User 2's file "a" of one element, 10, is made, saved and deleted, and "freed segments
-- keep their cells"; user 0 opens a new file, which takes that segment, writes 99 and abandons; the saved image is loaded, and the file read: 99.
-- Without the opening it is 10. Assumes nothing.
use Rattle.std.specs.Prelude.{ℕ, ◌≡◌, refl, true, false, List, [], ◌∷◌, ◌++◌, T, length, get_or, drop, replicate}
use Rattle.std.proofs.Common.{sym, ap, ◌∙◌, subst}
use Rattle.combine.specs.Verdict.{Said, done, refused, is_done}
use Rattle.combine.specs.Outcome.{Outcome}
use Rattle.placing.specs.Placing.{segment, position}
use Rattle.store.specs.Store.{element_at}
use Rattle.rules.specs.Calls.{new, work, read, rename, write, next, opens, closes, uses, load, save, Call, starts, asks, on}
use Rattle.rules.specs.House.{fresh_house}
use Rattle.segments.specs.State.{State, state, request_on_segments}
use Rattle.tables.specs.Laws.Sound.{ranged-of}
use Rattle.image.specs.Image.{served, imageb}
use Rattle.cells.specs.Outcomes.{Lent}
use Rattle.cells.specs.Laws.Lowered.{state_of}
use Rattle.proof_images.specs.Done.{load-done}
use Rattle.proof_requests_agree.specs.Agrees.{request-agrees}
use Rattle.proof_calls_sound.specs.Keeps.{keeps-sound, sound-final}
use Rattle.demands.specs.History.{outcome_on, after_call, final}
use Rattle.demands.specs.Demands.{Sound}
use Rattle.demands.specs.Abandoning.{quiet, Story, opening_call, abandoning, NoTrace}
use Rattle.proof_examples.specs.Fresh.{nothing_there}
use Rattle.proof_examples.specs.Known.{answers_known}
use Rattle.proof_demand3.specs.Started.{started_over, started-sound, started-state}
use Rattle.proof_demand3.specs.Answers.{answers-started, Passed, answered-otherwise, numbers-differ}
use Rattle.proof_demand3.specs.ButOne.{AbandonedThenLoaded}
use Rattle.examples.specs.Holding.{answers_on}
use Rattle.examples.specs.Examples.{bytes_of_a, makes_file_a, image_with_a}
use Rattle.proof_examples.specs.OnSegments.{state_after, goes_on, state-known}
use Rattle.proof_examples.specs.Worked.{house_with_a}
use Rattle.proof_demand3.specs.SavedImage.{cells-after, buffer, image-sound, image-says}

abbrev pub opens_a : Call
opens_a = on 2 0 (opens (read bytes_of_a))

abbrev reads_a : Call
reads_a = on 2 0 (uses (next 2))

abbrev pub takes_the_freed_segment : Story
takes_the_freed_segment = record {
  before = makes_file_a ++ (asks (save buffer) ∷ on 2 0 (opens (work bytes_of_a)) ∷ on 2 0 (uses (rename [])) ∷ on 2 0 (closes false) ∷ []);
  user = 0;
  entry = 0;
  way = new 5;
  between = on 0 0 (uses (write 1 99)) ∷ [];
  later = starts (load image_with_a) ∷ opens_a ∷ reads_a ∷ [];
}

-- the calls till the load, with the opening
abbrev lived : List Call
lived = takes_the_freed_segment.before ++ opening_call takes_the_freed_segment ∷ (takes_the_freed_segment.between ++ abandoning takes_the_freed_segment ∷ [])

-- ---- the other premises

known : answers_known lived (nothing_there 8192) ≡ replicate 11 (done 0)
unfolding answers_known
known = refl

answered : answers_on lived (started_over 8192) ≡ replicate 11 (done 0)
answered = answers-started 8192 refl lived tt ∙ known

other-premises : AbandonedThenLoaded takes_the_freed_segment (started_over 8192)
other-premises = record {
  opened = subst (λ (l : List Said). T (is_done (get_or l 8 (refused 0)))) (sym answered) tt;
  quietly = subst (λ (l : List Said). Passed (quiet 0 0) takes_the_freed_segment.between (drop 9 l)) (sym answered) (tt, tt);
}

-- ---- "a" is loaded and read: the answer is what stands at the first position of segment 0

abbrev first_of : List ℕ → ℕ
first_of s = element_at s 5 (segment 0) (position 1)

reads_first : (s : List ℕ) → (request_on_segments (uses (next 2)) 2 0 (state_after (opens_a ∷ []) (state s house_with_a))).answer ≡ done (first_of s)
unfolding state_after
reads_first s = refl

module _ (y : Lent) (sound : Sound y) (cells : length y.store ≡ 8192) where
  pub loaded : state_of (after_call (starts (load image_with_a)) y) ≡ state y.store house_with_a
  loaded =
      ap (λ (o : Outcome Lent). state_of o.after) (load-done y.store y.tables image_with_a (ranged-of (length y.store) y.tables sound).0
      (subst (λ (n : ℕ). imageb served n image_with_a ≡ true) (sym cells) image-sound))
      ∙ ap (state y.store) image-says

  pub loaded-sound : Sound (after_call (starts (load image_with_a)) y)
  loaded-sound = keeps-sound (starts (load image_with_a)) y sound

  read-after : (outcome_on reads_a (final (starts (load image_with_a) ∷ opens_a ∷ []) y)).answer ≡ done (first_of y.store)
  read-after =
      let z = final (starts (load image_with_a) ∷ opens_a ∷ []) y in
      (request-agrees (uses (next 2)) z.store z.tables 2 0 (keeps-sound opens_a (after_call (starts (load image_with_a)) y) loaded-sound)).answer
      ∙ ap (λ (m : State). (request_on_segments (uses (next 2)) 2 0 m).answer)
      (state-known (opens_a ∷ []) (after_call (starts (load image_with_a)) y) loaded-sound tt ∙ ap (state_after (opens_a ∷ [])) loaded)
      ∙ reads_first y.store

-- ---- the same after calls from a fresh start on

after-calls : (cs : List Call) → T (goes_on cs) → (n : ℕ) → first_of (state_after cs (state (replicate 8192 0) (fresh_house 8192))).store ≡ n
    → (outcome_on reads_a (final (starts (load image_with_a) ∷ opens_a ∷ []) (final cs (started_over 8192)))).answer ≡ done n
after-calls cs going n e =
    let start = started-sound 8192 refl in
    read-after (final cs (started_over 8192)) (sound-final cs (started_over 8192) start) (cells-after cs)
    ∙ ap (λ (m : State). done (first_of m.store)) (state-known cs (started_over 8192) start going ∙ ap (state_after cs) (started-state 8192 refl)) ∙ ap done e

first-with : first_of (state_after lived (state (replicate 8192 0) (fresh_house 8192))).store ≡ 99
unfolding state_after
first-with = refl

first-without : first_of (state_after takes_the_freed_segment.before (state (replicate 8192 0) (fresh_house 8192))).store ≡ 10
unfolding state_after
first-without = refl

-- ---- the premise is needed

trace : NoTrace takes_the_freed_segment (started_over 8192) → ⊥
trace = answered-otherwise takes_the_freed_segment (started_over 8192) 10 (done 99) (done 10)
    (after-calls lived tt 99 first-with) (after-calls takes_the_freed_segment.before tt 10 first-without) (numbers-differ 99 10 tt)

pub needs-no-load : AbandonedThenLoaded takes_the_freed_segment (started_over 8192) × (NoTrace takes_the_freed_segment (started_over 8192) → ⊥)
needs-no-load = (other-premises, trace)
