-- Each premise of P11 but one is met, and the landlord A, who is user 0, hears otherwise; B is user 1. Assumes nothing.
use Rattle.std.specs.Prelude.{ℕ, ◌≡◌, refl, Bool, true, false, not, ◌&&◌, List, [], ◌∷◌, replicate}
use Rattle.std.proofs.Common.{ap, ◌∙◌}
use Rattle.combine.specs.Laws.Below.{not-both}
use Rattle.combine.specs.Verdict.{is_done}
use Rattle.rules.specs.Calls.{new, work, read, rename, write, ask_species, opens, closes, abandons, uses, fresh, load, writes, Call, starts, asks, arranges, on, runs}
use Rattle.rules.specs.House.{House}
use Rattle.cells.specs.Says.{house_of}
use Rattle.cells.specs.Outcomes.{Lent}
use Rattle.model.specs.Step.{Report}
use Rattle.demands.specs.History.{outcome_on, view_on, final}
use Rattle.demands.specs.Hearing.{answered_as}
use Rattle.proof_examples.specs.Fresh.{nothing_there}
use Rattle.proof_examples.specs.Known.{answers_known}
use Rattle.proof_demand3.specs.Steps.{answered_in}
use Rattle.proof_demand3.specs.ButOne.{refused_for}
use Rattle.proof_demand3.specs.Started.{started_over, started-sound, started-known}
use Rattle.proof_examples.specs.Known.{known_after, final-known}
use Rattle.proof_demand3.specs.Answers.{heard_at, numbers-differ}
use Rattle.proof_neighbours.specs.Neighbours.{openly, QuietStart, hinders, hindered, NeighboursBy}
use Rattle.proof_neighbours.proofs.Cells.{openly-view}
use Rattle.proof_neighbours_needed.specs.Decided.{heard_known, refuted, quiet-started}

-- ---- the premises but one

-- of the numbers that hinder, n alone
abbrev pub hindered_by : ℕ → Call → Lent → Bool
hindered_by n c x = refused_for n (answered_as c x)

-- what is done openly, but for the calls that pass the test
abbrev pub openly_but : {C B : Type 0} → (Call → Bool) → Call → House C B → Bool
openly_but free c h = not (free c) && openly c h

pub but-view : (free : Call → Bool) (c : Call) (x : Lent) → openly_but free c (house_of x.tables) ≡ openly_but free c (view_on x).house
but-view free c x = ap (λ (b : Bool). not (free c) && b) (openly-view c x)

abbrev pub is_fresh : Call → Bool
is_fresh (starts fresh) = true
is_fresh (starts (load img)) = false
is_fresh (asks q) = false
is_fresh (arranges q) = false
is_fresh (on v d r) = false
is_fresh (runs v d r) = false

abbrev pub is_opening : Call → Bool
is_opening (starts c) = false
is_opening (asks q) = false
is_opening (arranges q) = false
is_opening (on v d (opens w)) = true
is_opening (on v d (closes public)) = false
is_opening (on v d abandons) = false
is_opening (on v d (uses act)) = false
is_opening (runs v d r) = false

abbrev pub is_closing : Call → Bool
is_closing (starts c) = false
is_closing (asks q) = false
is_closing (arranges q) = false
is_closing (on v d (opens w)) = false
is_closing (on v d (closes public)) = true
is_closing (on v d abandons) = false
is_closing (on v d (uses act)) = false
is_closing (runs v d r) = false

-- ---- heard otherwise: done, or not; done with another number

pub otherwise : (k : ℕ) (l m : List Report) → is_done (heard_at k l) ≡ false → is_done (heard_at k m) ≡ true → l ≡ m → ⊥
otherwise k l m e d q = not-both (ap (λ (n : List Report). is_done (heard_at k n)) q ∙ d) e

abbrev hinders_told : Report → Bool
hinders_told r = hinders (answered_in r)

abbrev file_a : List ℕ
file_a = 97 ∷ []

-- ---- 9: over a store of one segment, B takes it

abbrev writes9 : List Call
writes9 = on 0 0 (opens (new 5)) ∷ on 0 0 (uses (write 1 20)) ∷ []

abbrev with9 : List Call
with9 = on 1 0 (opens (new 5)) ∷ on 1 0 (uses (write 1 10)) ∷ writes9

pub needs-no-9 : NeighboursBy (hindered_by 17) openly QuietStart → ⊥
unfolding answers_known
needs-no-9 = refuted (λ r. refused_for 17 (answered_in r)) openly openly openly-view 0 QuietStart with9 writes9 (started_over 64) (nothing_there 64) (started-sound 64 refl) (started-known 64 refl)
    tt tt refl (quiet-started 64 refl 0) tt tt (otherwise 1 (heard_known 0 with9 (nothing_there 64)) (heard_known 0 writes9 (nothing_there 64)) refl refl)

-- ---- a run of A stopped by 9: over two segments B takes one, and A's run of 65 elements comes to 64

abbrev runs9 : List Call
runs9 = on 0 0 (opens (new 5)) ∷ runs 0 0 (writes 1 (replicate 65 20)) ∷ []

abbrev with_run9 : List Call
with_run9 = on 1 0 (opens (new 5)) ∷ on 1 0 (uses (write 1 10)) ∷ runs9

run-otherwise : heard_known 0 with_run9 (nothing_there 128) ≡ heard_known 0 runs9 (nothing_there 128) → ⊥
unfolding answers_known
run-otherwise q = numbers-differ 64 65 tt (ap (heard_at 1) q)

pub needs-no-stop-by-9 : NeighboursBy (λ c x. hinders (outcome_on c x).answer) openly QuietStart → ⊥
unfolding answers_known
needs-no-stop-by-9 = refuted (λ r. hinders r.answer) openly openly openly-view 0 QuietStart with_run9 runs9 (started_over 128) (nothing_there 128) (started-sound 128 refl) (started-known 128 refl)
    tt tt refl (quiet-started 128 refl 0) tt tt run-otherwise

-- ---- at the start no other user has a public file open: B reads A's, and leaves it in one history; A's work on it is 14 in the other

abbrev before : List Call
before = on 0 0 (opens (new 5)) ∷ on 0 0 (uses (rename file_a)) ∷ on 0 0 (closes true) ∷ on 1 0 (opens (read file_a)) ∷ []

abbrev works : List Call
works = on 0 0 (opens (work file_a)) ∷ []

abbrev leaves : List Call
leaves = on 1 0 abandons ∷ works

pub needs-quiet-start : NeighboursBy hindered openly (λ a x. Unit {0}) → ⊥
unfolding answers_known
needs-quiet-start =
    let k = final-known before (started_over 64) (started-sound 64 refl) tt in
    refuted hinders_told openly openly openly-view 0 (λ a x. Unit {0}) works leaves (final before (started_over 64)) (known_after before (nothing_there 64))
    k.1 (k.0 ∙ ap (known_after before) (started-known 64 refl)) tt tt refl tt
    tt tt (otherwise 0 (heard_known 0 works (known_after before (nothing_there 64))) (heard_known 0 leaves (known_after before (nothing_there 64))) refl refl)

-- ---- none of theirs opens a public file: B reads A's, and A's work on it is 14

abbrev mine14 : List Call
mine14 = on 0 0 (opens (new 5)) ∷ on 0 0 (uses (rename file_a)) ∷ on 0 0 (closes true) ∷ works

abbrev with14 : List Call
with14 = on 0 0 (opens (new 5)) ∷ on 0 0 (uses (rename file_a)) ∷ on 0 0 (closes true) ∷ on 1 0 (opens (read file_a)) ∷ works

pub needs-none-opened : NeighboursBy hindered (openly_but is_opening) QuietStart → ⊥
unfolding answers_known
needs-none-opened =
    refuted hinders_told (openly_but is_opening) (openly_but is_opening) (but-view is_opening) 0 QuietStart with14 mine14 (started_over 64) (nothing_there 64) (started-sound 64 refl) (started-known 64 refl)
    tt tt refl (quiet-started 64 refl 0) tt tt (otherwise 3 (heard_known 0 with14 (nothing_there 64)) (heard_known 0 mine14 (nothing_there 64)) refl refl)

-- ---- or closes a file as public: A's close as public is 16

abbrev mine16 : List Call
mine16 = on 0 0 (opens (new 5)) ∷ on 0 0 (uses (rename file_a)) ∷ on 0 0 (closes true) ∷ []

abbrev with16 : List Call
with16 = on 1 0 (opens (new 5)) ∷ on 1 0 (uses (rename file_a)) ∷ on 1 0 (closes true) ∷ mine16

pub needs-none-closed-public : NeighboursBy hindered (openly_but is_closing) QuietStart → ⊥
unfolding answers_known
needs-none-closed-public =
    refuted hinders_told (openly_but is_closing) (openly_but is_closing) (but-view is_closing) 0 QuietStart with16 mine16 (started_over 64) (nothing_there 64) (started-sound 64 refl) (started-known 64 refl)
    tt tt refl (quiet-started 64 refl 0) tt tt (otherwise 2 (heard_known 0 with16 (nothing_there 64)) (heard_known 0 mine16 (nothing_there 64)) refl refl)

-- ---- neither history has a fresh start: A's entry is not open after it, 2

abbrev mine2 : List Call
mine2 = on 0 0 (opens (new 5)) ∷ on 0 0 (uses ask_species) ∷ []

abbrev with2 : List Call
with2 = on 0 0 (opens (new 5)) ∷ starts fresh ∷ on 0 0 (uses ask_species) ∷ []

pub needs-no-fresh : NeighboursBy hindered (openly_but is_fresh) QuietStart → ⊥
unfolding answers_known
needs-no-fresh =
    refuted hinders_told (openly_but is_fresh) (openly_but is_fresh) (but-view is_fresh) 0 QuietStart with2 mine2 (started_over 64) (nothing_there 64) (started-sound 64 refl) (started-known 64 refl)
    tt tt refl (quiet-started 64 refl 0) tt tt (otherwise 1 (heard_known 0 with2 (nothing_there 64)) (heard_known 0 mine2 (nothing_there 64)) refl refl)
