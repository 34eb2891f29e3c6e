-- A story to which demand 3 is applied: user 2's file of 64 elements is opened for work, its first element is replaced (the record's segment is
-- copied), a run of appends begins another stretch, and it is renamed, while user 3 makes a file, writes a run there and closes it, and another of
-- temperatures, where -5 is written and 40,000 is refused; then it is abandoned, and the files are read, user 3's by a run that comes to its end.
-- Assumes nothing.
use Rattle.std.specs.Prelude.{ℕ, ◌≡◌, refl, true, false, List, [], ◌∷◌, ◌++◌, T, pos, negsuc, length, replicate}
use Rattle.std.proofs.Common.{sym, subst}
use Rattle.combine.specs.Verdict.{done, refused, is_done}
use Rattle.placing.specs.Sizes.{tables_length}
use Rattle.rules.specs.Calls.{new, work, read, rename, reset, write, next, write_signed, next_signed, opens, closes, uses, fresh, count, writes, fills, Call, starts, asks, on, runs}
use Rattle.cells.specs.Outcomes.{lent}
use Rattle.model.specs.Model.{Model}
use Rattle.model.specs.Step.{step}
use Rattle.demands.specs.History.{after_call, view_on}
use Rattle.demands.specs.Abandoning.{Story, opening_call, whole, Abandoned, NoTrace}
use Rattle.proof_demand3.proofs.Premises.{quietb, abandoned-known}
use Rattle.proof_demand3.proofs.Demand3.{demand3}
use Rattle.proof_examples.specs.Fresh.{nothing_there, fresh-leaves-sound, fresh-leaves-nothing}
use Rattle.proof_examples.specs.Known.{blind, answers_known, answers-after, known_after}
use Rattle.examples.specs.Holding.{AnswersSo}

-- ---- the story

abbrev file_a : List ℕ
file_a = 97 ∷ []

abbrev file_c : List ℕ
file_c = 99 ∷ []

-- position 64 is the last of the first stretch
abbrev filled : List Call
filled = on 2 0 (opens (new 5)) ∷ (replicate 64 (on 2 0 (uses (write 1 5))) ++ on 2 0 (uses (rename file_a)) ∷ on 2 0 (closes false) ∷ [])

abbrev pub story_after : List Call → Story
story_after before = record {
  before = before;
  user = 2;
  entry = 0;
  way = work file_a;
  between = on 2 0 (uses reset) ∷ on 2 0 (uses (write 2 99)) ∷ on 3 1 (opens (new 3)) ∷ runs 2 0 (writes 1 (7 ∷ 8 ∷ [])) ∷ on 3 1 (uses (write 1 6)) ∷ runs 3 1 (writes 1 (4 ∷ 200 ∷ []))
      ∷ on 3 2 (opens (new 6)) ∷ on 3 2 (uses (write_signed 1 (negsuc 4))) ∷ on 3 2 (uses (write_signed 1 (pos 40000))) ∷ asks (count 3) ∷ on 2 0 (uses (rename (98 ∷ []))) ∷ on 3 1 (uses (rename file_c)) ∷ on 3 1 (closes true) ∷ [];
  later = on 2 1 (opens (read file_a)) ∷ on 2 1 (uses (next 2)) ∷ on 2 0 (opens (read file_c)) ∷ runs 2 0 (fills 2 (replicate 5 0)) ∷ on 3 2 (uses (next_signed 2)) ∷ asks (count 2) ∷ [];
}

-- ---- on the state as its users know it, after a fresh start over 1,024 cells

well : T (is_done (step blind (opening_call (story_after filled)) (known_after filled (nothing_there 1024))).answer)
unfolding answers_known
well = tt

quietly : T (quietb 2 0 (story_after filled).between (step blind (opening_call (story_after filled)) (known_after filled (nothing_there 1024))).after)
unfolding answers_known
quietly = tt

-- ---- on any cells

-- what it tells is done, but for 40,000: of 16 segments five are taken before the abandonment, and three after it, when the first element is 5 as it
-- was; 65,531 are the bits of -5
pub answered : AnswersSo 1024 (whole (story_after (starts fresh ∷ filled)))
    (replicate 72 (done 0)
    ++ (done 2 ∷ done 0 ∷ done 2 ∷ done 0 ∷ done 0 ∷ refused 23 ∷ done 11 ∷ done 0 ∷ done 0 ∷ done 0 ∷ done 0 ∷ done 0 ∷ done 5 ∷ done 0 ∷ done 3 ∷ done 65531 ∷ done 13 ∷ []))
unfolding answers_known
answered = answers-after 1024 _ _ refl tt refl

module _ (s t : List ℕ) (cells : length s ≡ 1024) (long : length t ≡ tables_length) where
  nothing-there : view_on (after_call (starts fresh) (lent s t)) ≡ nothing_there 1024
  nothing-there = fresh-leaves-nothing s t 1024 cells refl long

  -- the premises of demand 3 are met
  pub premises : Abandoned (story_after (starts fresh ∷ filled)) (lent s t)
  premises =
      let a = abandoned-known (story_after filled) (after_call (starts fresh) (lent s t)) (fresh-leaves-sound s t 1024 cells refl long) tt tt tt
      (subst (λ (m : Model). T (is_done (step blind (opening_call (story_after filled)) (known_after filled m)).answer)) (sym nothing-there) well)
      (subst (λ (m : Model). T (quietb 2 0 (story_after filled).between (step blind (opening_call (story_after filled)) (known_after filled m)).after)) (sym nothing-there) quietly) in
      record { opened = a.opened; quietly = a.quietly; no_load = a.no_load }

  pub no-trace : NoTrace (story_after (starts fresh ∷ filled)) (lent s t)
  no-trace = demand3 (story_after (starts fresh ∷ filled)) (lent s t) premises
