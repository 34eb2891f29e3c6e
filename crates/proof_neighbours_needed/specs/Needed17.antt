-- P11 needs that A, who is user 0, is not answered 17: B makes 64 private files, and A's new file finds no free place. Assumes nothing.
use Rattle.std.specs.Prelude.{ℕ, zero, suc, ◌+◌, ◌/◌, ◌%◌, ◌≡◌, refl, Bool, true, false, List, [], ◌∷◌, ◌++◌, T}
use Rattle.combine.specs.Verdict.{refused, is_done}
use Rattle.placing.specs.Sizes.{places}
use Rattle.rules.specs.Calls.{new, rename, opens, closes, uses, Call, on}
use Rattle.model.specs.Step.{Report}
use Rattle.demands.specs.History.{those}
use Rattle.proof_examples.specs.Fresh.{nothing_there}
use Rattle.proof_examples.specs.Known.{answers_known, no_lookb}
use Rattle.proof_demand3.specs.Steps.{answered_in}
use Rattle.proof_demand3.specs.ButOne.{refused_for}
use Rattle.proof_demand3.specs.Started.{started_over, started-sound, started-known}
use Rattle.proof_demand3.specs.Answers.{heard_at}
use Rattle.demands.specs.Private.{is_of}
use Rattle.proof_neighbours.specs.Neighbours.{openly, QuietStart, NeighboursBy}
use Rattle.proof_neighbours.proofs.Cells.{openly-view}
use Rattle.proof_neighbours_needed.specs.Decided.{heard_known, all_apart, refuted, quiet-started}
use Rattle.proof_neighbours_needed.specs.Needed.{hindered_by, otherwise}

-- n empty private files of B, each of another name of two letters
abbrev fill : ℕ → List Call
fill zero = []
fill (suc n) = on 1 0 (opens (new 5)) ∷ on 1 0 (uses (rename ((97 + n / 8) ∷ (97 + n % 8) ∷ []))) ∷ on 1 0 (closes false) ∷ fill n

abbrev mine17 : List Call
mine17 = on 0 0 (opens (new 5)) ∷ on 0 0 (uses (rename (97 ∷ []))) ∷ on 0 0 (closes false) ∷ []

abbrev with17 : List Call
with17 = fill places ++ mine17

-- ---- each decided by itself

abbrev by9 : Report → Bool
by9 r = refused_for 9 (answered_in r)

same-calls : those (is_of 0) with17 ≡ those (is_of 0) mine17
same-calls = refl

none-loaded : T (no_lookb with17)
none-loaded = tt

apart-with : T (all_apart by9 openly 0 with17 (nothing_there 64))
unfolding answers_known
apart-with = tt

apart-alone : T (all_apart by9 openly 0 mine17 (nothing_there 64))
unfolding answers_known
apart-alone = tt

told-17 : heard_at 2 (heard_known 0 with17 (nothing_there 64)) ≡ refused 17
unfolding answers_known
told-17 = refl

refused-with : is_done (heard_at 2 (heard_known 0 with17 (nothing_there 64))) ≡ false
refused-with = rw told-17 refl

done-alone : is_done (heard_at 2 (heard_known 0 mine17 (nothing_there 64))) ≡ true
unfolding answers_known
done-alone = refl

pub needs-no-17 : NeighboursBy (hindered_by 9) openly QuietStart → ⊥
needs-no-17 = refuted by9 openly openly openly-view 0 QuietStart with17 mine17 (started_over 64) (nothing_there 64) (started-sound 64 refl) (started-known 64 refl)
    none-loaded tt same-calls (quiet-started 64 refl 0) apart-with apart-alone (otherwise 2 (heard_known 0 with17 (nothing_there 64)) (heard_known 0 mine17 (nothing_there 64)) refused-with done-alone)
