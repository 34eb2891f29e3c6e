-- Demand 3 needs that "a run stopped by 9 counts as answered "no room"". Over a store of two segments user 0 opens a new file and writes, which
-- takes one; user 1 opens a new file and writes a run of 65 elements: 64 fill the other segment, the next is refused for 9, and the run is
-- answered done, 64; user 0 abandons. Without the opening the run is answered done, 65. Assumes nothing.
use Rattle.std.specs.Prelude.{ℕ, ◌*◌, ◌≡◌, refl, List, [], ◌∷◌, T, get_or, drop, replicate}
use Rattle.std.proofs.Common.{sym, ap, ◌∙◌, subst}
use Rattle.combine.specs.Verdict.{Said, done, refused, is_done}
use Rattle.placing.specs.Sizes.{segment_cells}
use Rattle.rules.specs.Calls.{new, write, opens, uses, writes, on, runs}
use Rattle.rules.specs.Runs.{no_run}
use Rattle.demands.specs.Abandoning.{quiet, Story, whole, rest, NoTrace}
use Rattle.examples.specs.Holding.{answers_on, runs_on}
use Rattle.examples.specs.Examples.{told}
use Rattle.proof_examples.specs.Fresh.{nothing_there}
use Rattle.proof_examples.specs.Known.{answers_known, runs_known}
use Rattle.proof_demand3.specs.Started.{started_over}
use Rattle.proof_demand3.specs.Answers.{answers-started, runs-started, Passed, answered-otherwise, numbers-differ}
use Rattle.proof_demand3.specs.ButOne.{AbandonedByAnswer}

abbrev two_segments : ℕ
two_segments = segment_cells * 2

abbrev pub takes_one_segment : Story
takes_one_segment = record {
  before = [];
  user = 0;
  entry = 0;
  way = new 5;
  between = on 0 0 (uses (write 1 10)) ∷ on 1 0 (opens (new 5)) ∷ runs 1 0 (writes 1 (replicate 65 20)) ∷ [];
  later = [];
}

-- ---- the answers: user 1's run is the last call but one with the opening, and the last without it

known-with : answers_known (whole takes_one_segment) (nothing_there two_segments) ≡ done 0 ∷ done 0 ∷ done 0 ∷ done 64 ∷ done 0 ∷ []
unfolding answers_known
known-with = refl

known-without : answers_known (rest takes_one_segment) (nothing_there two_segments) ≡ done 0 ∷ done 65 ∷ []
unfolding answers_known
known-without = refl

answered-with : answers_on (whole takes_one_segment) (started_over two_segments) ≡ done 0 ∷ done 0 ∷ done 0 ∷ done 64 ∷ done 0 ∷ []
answered-with = answers-started two_segments refl (whole takes_one_segment) tt ∙ known-with

answered-without : answers_on (rest takes_one_segment) (started_over two_segments) ≡ done 0 ∷ done 65 ∷ []
answered-without = answers-started two_segments refl (rest takes_one_segment) tt ∙ known-without

-- with the opening the run is stopped by 9, and hands back its last element

runs-with : runs_known (whole takes_one_segment) (nothing_there two_segments) ≡ no_run ∷ no_run ∷ no_run ∷ told 9 (20 ∷ []) ∷ no_run ∷ []
unfolding runs_known
runs-with = refl

pub stopped-by-9 : runs_on (whole takes_one_segment) (started_over two_segments) ≡ no_run ∷ no_run ∷ no_run ∷ told 9 (20 ∷ []) ∷ no_run ∷ []
stopped-by-9 = runs-started two_segments refl (whole takes_one_segment) tt ∙ runs-with

-- ---- the premise is needed

other-premises : AbandonedByAnswer takes_one_segment (started_over two_segments)
other-premises = record {
  opened = subst (λ (l : List Said). T (is_done (get_or l 0 (refused 0)))) (sym answered-with) tt;
  quietly = subst (λ (l : List Said). Passed (quiet 0 0) takes_one_segment.between (drop 1 l)) (sym answered-with) (tt, (tt, (tt, tt)));
  no_load = tt;
}

trace : NoTrace takes_one_segment (started_over two_segments) → ⊥
trace = answered-otherwise takes_one_segment (started_over two_segments) 1 (done 64) (done 65)
    (ap (λ (l : List Said). get_or l 3 (done 0)) answered-with) (ap (λ (l : List Said). get_or l 1 (done 0)) answered-without) (numbers-differ 64 65 tt)

pub needs-run-stop : AbandonedByAnswer takes_one_segment (started_over two_segments) × (NoTrace takes_one_segment (started_over two_segments) → ⊥)
needs-run-stop = (other-premises, trace)
