-- P11 needs that no image is loaded: the operator loads the image of document 01's worked example, in which A, who is user 2, has a file "a"; A's
-- opening of it is done. Without the load it is 11. Assumes nothing.
use Rattle.std.specs.Prelude.{ℕ, ◌≡◌, refl, Bool, not, List, [], ◌∷◌, T, get_or}
use Rattle.std.proofs.Common.{sym, ap, ◌∙◌, subst}
use Rattle.std.proofs.Math.Bool.{and-false}
use Rattle.combine.specs.Verdict.{Said, done, refused, is_done}
use Rattle.rules.specs.Calls.{read, opens, load, Call, starts}
use Rattle.segments.specs.State.{State, state, request_on_segments}
use Rattle.cells.specs.Outcomes.{Lent}
use Rattle.demands.specs.History.{outcome_on, after_call, Each}
use Rattle.demands.specs.Demands.{Sound}
use Rattle.demands.specs.Abandoning.{is_load}
use Rattle.examples.specs.Examples.{bytes_of_a, image_with_a}
use Rattle.proof_requests_agree.specs.Agrees.{request-agrees}
use Rattle.proof_examples.specs.Fresh.{nothing_there}
use Rattle.proof_examples.specs.Known.{answers_known}
use Rattle.proof_examples.specs.OnSegments.{state_after}
use Rattle.proof_examples.specs.Worked.{house_with_a}
use Rattle.proof_demand3.specs.Started.{started_over, started-sound}
use Rattle.proof_demand3.specs.Answers.{answers-started}
use Rattle.proof_demand3.specs.SavedImage.{cells-after}
use Rattle.proof_demand3.specs.NeededLoad.{opens_a, loaded, loaded-sound}
use Rattle.proof_neighbours.specs.Neighbours.{QuietStart, hinders, hindered, Apart, NeighboursBy}
use Rattle.proof_neighbours_needed.specs.Decided.{quiet-started}
use Rattle.proof_neighbours_needed.specs.Needed.{openly_but, otherwise}

abbrev x : Lent
x = started_over 8192

abbrev y : Lent
y = after_call (starts (load image_with_a)) x

sound : Sound x
sound = started-sound 8192 refl

opens-there : (s : List ℕ) → (request_on_segments (opens (read bytes_of_a)) 2 0 (state s house_with_a)).answer ≡ done 0
unfolding state_after
opens-there s = refl

with-load : (outcome_on opens_a y).answer ≡ done 0
with-load =
    (request-agrees (opens (read bytes_of_a)) y.store y.tables 2 0 (loaded-sound x sound (cells-after []))).answer
    ∙ ap (λ (m : State). (request_on_segments (opens (read bytes_of_a)) 2 0 m).answer) (loaded x sound (cells-after [])) ∙ opens-there x.store

known-without : answers_known (opens_a ∷ []) (nothing_there 8192) ≡ refused 11 ∷ []
unfolding answers_known
known-without = refl

without-load : (outcome_on opens_a x).answer ≡ refused 11
without-load = ap (λ (l : List Said). get_or l 0 (done 0)) (answers-started 8192 refl (opens_a ∷ []) tt ∙ known-without)

abbrev Others : Call → Lent → Type 0
Others = Apart hindered (openly_but is_load) 2

apart-with : Each Others (starts (load image_with_a) ∷ opens_a ∷ []) x
apart-with = (subst (λ (b : Bool). T (not b)) (sym (and-false (is_done (outcome_on (starts (load image_with_a)) x).answer))) tt, (subst (λ (s : Said). T (not (hinders s))) (sym with-load) tt, tt))

apart-without : Each Others (opens_a ∷ []) x
apart-without = (subst (λ (s : Said). T (not (hinders s))) (sym without-load) tt, tt)

pub needs-no-load : NeighboursBy hindered (openly_but is_load) QuietStart → ⊥
needs-no-load all =
    otherwise 0 _ _ (ap is_done without-load) (ap is_done with-load)
    (sym (all 2 (starts (load image_with_a) ∷ opens_a ∷ []) (opens_a ∷ []) x refl (quiet-started 8192 refl 2) apart-with apart-without))
