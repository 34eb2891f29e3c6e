-- Demand 3 needs that no other call between is answered 14. User 0 makes a public file and opens it for work; user 1 asks to read it and is
-- refused for 14, "for read, if a work opening of it exists"; user 0 abandons. Without the opening user 1's call is done. Assumes nothing.
use Rattle.std.specs.Prelude.{ℕ, ◌≡◌, refl, true, List, [], ◌∷◌, T, get_or, drop}
use Rattle.std.proofs.Common.{sym, ap, ◌∙◌, subst}
use Rattle.combine.specs.Laws.Below.{not-both}
use Rattle.combine.specs.Verdict.{Said, done, refused, is_done}
use Rattle.rules.specs.Calls.{new, work, read, rename, opens, closes, uses, on}
use Rattle.demands.specs.Abandoning.{Story, whole, rest, NoTrace}
use Rattle.examples.specs.Holding.{answers_on}
use Rattle.proof_examples.specs.Fresh.{nothing_there}
use Rattle.proof_examples.specs.Known.{answers_known}
use Rattle.proof_demand3.specs.Started.{started_over}
use Rattle.proof_demand3.specs.Answers.{answers-started, Passed, answered-otherwise}
use Rattle.proof_demand3.specs.ButOne.{quiet_but, AbandonedBut}

abbrev file_a : List ℕ
file_a = 97 ∷ []

abbrev pub works_on_the_public_file : Story
works_on_the_public_file = record {
  before = on 0 0 (opens (new 5)) ∷ on 0 0 (uses (rename file_a)) ∷ on 0 0 (closes true) ∷ [];
  user = 0;
  entry = 0;
  way = work file_a;
  between = on 1 0 (opens (read file_a)) ∷ [];
  later = [];
}

-- ---- the answers: user 1's call is the last but one with the opening, and the last without it

known-with : answers_known (whole works_on_the_public_file) (nothing_there 64) ≡ done 0 ∷ done 0 ∷ done 0 ∷ done 0 ∷ refused 14 ∷ done 0 ∷ []
unfolding answers_known
known-with = refl

known-without : answers_known (rest works_on_the_public_file) (nothing_there 64) ≡ done 0 ∷ done 0 ∷ done 0 ∷ done 0 ∷ []
unfolding answers_known
known-without = refl

answered-with : answers_on (whole works_on_the_public_file) (started_over 64) ≡ done 0 ∷ done 0 ∷ done 0 ∷ done 0 ∷ refused 14 ∷ done 0 ∷ []
answered-with = answers-started 64 refl (whole works_on_the_public_file) tt ∙ known-with

answered-without : answers_on (rest works_on_the_public_file) (started_over 64) ≡ done 0 ∷ done 0 ∷ done 0 ∷ done 0 ∷ []
answered-without = answers-started 64 refl (rest works_on_the_public_file) tt ∙ known-without

-- ---- the premise is needed

other-premises : AbandonedBut 14 works_on_the_public_file (started_over 64)
other-premises = record {
  opened = subst (λ (l : List Said). T (is_done (get_or l 3 (refused 0)))) (sym answered-with) tt;
  quietly = subst (λ (l : List Said). Passed (quiet_but 14 0 0) works_on_the_public_file.between (drop 4 l)) (sym answered-with) (tt, tt);
  no_load = tt;
}

trace : NoTrace works_on_the_public_file (started_over 64) → ⊥
trace = answered-otherwise works_on_the_public_file (started_over 64) 3 (refused 14) (done 0)
    (ap (λ (l : List Said). get_or l 4 (done 0)) answered-with) (ap (λ (l : List Said). get_or l 3 (done 0)) answered-without) (λ e. not-both (ap is_done e) refl)

pub needs-no-14 : AbandonedBut 14 works_on_the_public_file (started_over 64) × (NoTrace works_on_the_public_file (started_over 64) → ⊥)
needs-no-14 = (other-premises, trace)
