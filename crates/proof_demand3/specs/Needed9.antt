-- Demand 3 needs that no other call between is answered 9. Over a store of one segment user 0 opens a new file and writes, which takes the
-- segment; user 1 opens a new file, and the write there is refused for 9, "no room: a segment needed, none free"; user 0 abandons. Without the
-- opening user 1's write is done. Assumes nothing.
use Rattle.std.specs.Prelude.{◌≡◌, refl, List, [], ◌∷◌, T, get_or, drop}
use Rattle.std.proofs.Common.{sym, ap, ◌∙◌, subst}
use Rattle.combine.specs.Laws.Below.{not-both}
use Rattle.combine.specs.Verdict.{Said, done, refused, is_done}
use Rattle.rules.specs.Calls.{new, write, opens, uses, on}
use Rattle.demands.specs.Abandoning.{Story, whole, rest, NoTrace}
use Rattle.examples.specs.Holding.{answers_on}
use Rattle.proof_examples.specs.Fresh.{nothing_there}
use Rattle.proof_examples.specs.Known.{answers_known}
use Rattle.proof_demand3.specs.Started.{started_over}
use Rattle.proof_demand3.specs.Answers.{answers-started, Passed, answered-otherwise}
use Rattle.proof_demand3.specs.ButOne.{quiet_but, AbandonedBut}

abbrev pub takes_the_segment : Story
takes_the_segment = record {
  before = [];
  user = 0;
  entry = 0;
  way = new 5;
  between = on 0 0 (uses (write 1 10)) ∷ on 1 0 (opens (new 5)) ∷ on 1 0 (uses (write 1 20)) ∷ [];
  later = [];
}

-- ---- the answers: user 1's write is the last call but one with the opening, and the last without it

known-with : answers_known (whole takes_the_segment) (nothing_there 64) ≡ done 0 ∷ done 0 ∷ done 0 ∷ refused 9 ∷ done 0 ∷ []
unfolding answers_known
known-with = refl

known-without : answers_known (rest takes_the_segment) (nothing_there 64) ≡ done 0 ∷ done 0 ∷ []
unfolding answers_known
known-without = refl

answered-with : answers_on (whole takes_the_segment) (started_over 64) ≡ done 0 ∷ done 0 ∷ done 0 ∷ refused 9 ∷ done 0 ∷ []
answered-with = answers-started 64 refl (whole takes_the_segment) tt ∙ known-with

answered-without : answers_on (rest takes_the_segment) (started_over 64) ≡ done 0 ∷ done 0 ∷ []
answered-without = answers-started 64 refl (rest takes_the_segment) tt ∙ known-without

-- ---- the premise is needed

other-premises : AbandonedBut 9 takes_the_segment (started_over 64)
other-premises = record {
  opened = subst (λ (l : List Said). T (is_done (get_or l 0 (refused 0)))) (sym answered-with) tt;
  quietly = subst (λ (l : List Said). Passed (quiet_but 9 0 0) takes_the_segment.between (drop 1 l)) (sym answered-with) (tt, (tt, (tt, tt)));
  no_load = tt;
}

trace : NoTrace takes_the_segment (started_over 64) → ⊥
trace = answered-otherwise takes_the_segment (started_over 64) 1 (refused 9) (done 0)
    (ap (λ (l : List Said). get_or l 3 (done 0)) answered-with) (ap (λ (l : List Said). get_or l 1 (done 0)) answered-without) (λ e. not-both (ap is_done e) refl)

pub needs-no-9 : AbandonedBut 9 takes_the_segment (started_over 64) × (NoTrace takes_the_segment (started_over 64) → ⊥)
needs-no-9 = (other-premises, trace)
