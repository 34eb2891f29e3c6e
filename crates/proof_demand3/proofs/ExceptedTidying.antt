-- Demand 3 excepts the number of a tidying after the abandonment, and must. User 2 opens a new file and writes, which takes segment 0; user 3 makes a
-- file, which takes segment 1; user 2 abandons. Then a tidying copies the 64 cells of segment 1. Without the opening user 3's file is in segment 0,
-- and nothing moves. Assumes nothing.
use Rattle.std.specs.Prelude.{ℕ, ◌≡◌, refl, true, false, List, [], ◌∷◌, ◌++◌, T, replicate}
use Rattle.std.proofs.Common.{sym, ap, ◌∙◌, subst}
use Rattle.std.proofs.Math.Option.{none, some}
use Rattle.combine.specs.Below.{count_below}
use Rattle.combine.specs.Verdict.{done, is_done}
use Rattle.names.specs.Names.{name_of}
use Rattle.placing.specs.Sizes.{segment_cells, entries}
use Rattle.rules.specs.Calls.{new, write, rename, opens, closes, uses, Call, on}
use Rattle.rules.specs.Headings.{filing}
use Rattle.rules.specs.House.{house, fresh_house}
use Rattle.segments.specs.Free.{SegmentHouse}
use Rattle.segments.specs.Moves.{is_listed, listed_count, tidy_count}
use Rattle.segments.specs.State.{State}
use Rattle.model.specs.Model.{Model}
use Rattle.model.specs.Step.{step}
use Rattle.proof_calls_sound.specs.Keeps.{sound-final}
use Rattle.demands.specs.History.{outcome_on, final}
use Rattle.demands.specs.Tidying.{tidying}
use Rattle.demands.specs.Abandoning.{Story, opening_call, abandoning, strike, Abandoned, NoTrace}
use Rattle.examples.specs.Examples.{bytes_of_a}
use Rattle.proof_examples.specs.Fresh.{nothing_there}
use Rattle.proof_examples.specs.Known.{blind, answers_known}
use Rattle.proof_examples.specs.OnSegments.{state_after}
use Rattle.proof_examples.specs.Saved.{Leads, after-says}
use Rattle.proof_examples.specs.Tidied.{tidy-said}
use Rattle.proof_demand3.proofs.Demand3.{demand3}
use Rattle.proof_demand3.proofs.Premises.{quietb, abandoned-known}
use Rattle.proof_demand3.specs.Started.{started_over, started-sound, started-known, started-state}

abbrev pub tidies_after : Story
tidies_after = record {
  before = [];
  user = 2;
  entry = 0;
  way = new 5;
  between = on 2 0 (uses (write 1 7)) ∷ on 3 0 (opens (new 5)) ∷ on 3 0 (uses (write 1 8)) ∷ on 3 0 (uses (rename bytes_of_a)) ∷ on 3 0 (closes false) ∷ [];
  later = tidying ∷ [];
}

-- the calls up to the tidying, and those that are left of them
abbrev pub lived : List Call
lived = opening_call tidies_after ∷ (tidies_after.between ++ abandoning tidies_after ∷ [])

abbrev pub left : List Call
left = strike 2 0 tidies_after.between

-- ---- on segments: the store has three

abbrev three : ℕ
three = 192

-- user 3's file, in segment g
abbrev filed_in : ℕ → SegmentHouse
filed_in g =
    house 3 (some (filing (record { owner = 3; name = name_of bytes_of_a; private = true; species = 5; begin = 1; end = 2 }) (g ∷ [])) ∷ replicate 63 none) (replicate entries none)

leads-with : Leads (fresh_house three) lived (filed_in 1)
unfolding state_after
leads-with = record { going = tt; leads = λ s. refl }

leads-without : Leads (fresh_house three) left (filed_in 0)
unfolding state_after
leads-without = record { going = tt; leads = λ s. refl }

-- a tidying after calls that lead there
said-after : (cs : List Call) (g n : ℕ) → Leads (fresh_house three) cs (filed_in g) → tidy_count (filed_in g) ≡ n → (outcome_on tidying (final cs (started_over three))).answer ≡ done n
said-after cs g n w e =
    let sound = started-sound three refl in
    tidy-said (final cs (started_over three)) (filed_in g) (sound-final cs (started_over three) sound)
    (after-says (fresh_house three) cs (filed_in g) w (started_over three) sound (ap (λ (m : State). m.house) (started-state three refl))) refl
    ∙ ap done e

one-goes : tidy_count (filed_in 1) ≡ segment_cells
unfolding state_after tidy_count listed_count is_listed count_below
one-goes = refl

none-goes : tidy_count (filed_in 0) ≡ 0
unfolding state_after tidy_count listed_count is_listed count_below
none-goes = refl

-- ---- the premises are met

well : T (is_done (step blind (opening_call tidies_after) (nothing_there three)).answer)
unfolding answers_known
well = tt

quietly : T (quietb 2 0 tidies_after.between (step blind (opening_call tidies_after) (nothing_there three)).after)
unfolding answers_known
quietly = tt

pub premises : Abandoned tidies_after (started_over three)
premises =
    let known = started-known three refl in
    abandoned-known tidies_after (started_over three) (started-sound three refl) tt tt tt
    (subst (λ (m : Model). T (is_done (step blind (opening_call tidies_after) m).answer)) (sym known) well)
    (subst (λ (m : Model). T (quietb 2 0 tidies_after.between (step blind (opening_call tidies_after) m).after)) (sym known) quietly)

pub no-trace : NoTrace tidies_after (started_over three)
no-trace = demand3 tidies_after (started_over three) premises

-- ---- and the two numbers differ

pub copies-with : (outcome_on tidying (final lived (started_over three))).answer ≡ done segment_cells
copies-with = said-after lived 1 segment_cells leads-with one-goes

pub copies-without : (outcome_on tidying (final left (started_over three))).answer ≡ done 0
copies-without = said-after left 0 0 leads-without none-goes
