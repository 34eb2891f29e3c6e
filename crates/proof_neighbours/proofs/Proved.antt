-- Document 02, P11, proved: on sound tables by what the landlord sees, on any other by refusal 20. Assumes nothing.
use Rattle.std.specs.Prelude.{ℕ, ◌≡◌, refl, ◌≢◌, Bool, true, false, not, ◌&&◌, T, eqb}
use Rattle.std.proofs.Common.{sym, ap, ◌∙◌, subst, ⊎_elim, eqb→eq}
use Rattle.std.proofs.Math.Bool.{and-true}
use Rattle.std.proofs.Math.Option.{none}
use Rattle.combine.specs.Laws.Below.{split-bool, not-both}
use Rattle.combine.specs.Laws.Tests.{eqb-eq, false_of}
use Rattle.combine.specs.Verdict.{is_done}
use Rattle.combine.specs.Outcome.{Outcome}
use Rattle.rules.specs.Calls.{Start, save, count, Call, starts, asks, arranges, on, runs}
use Rattle.rules.specs.Runs.{no_run}
use Rattle.cells.specs.Outcomes.{Lent, sound_lent}
use Rattle.cells.specs.Laws.Refusals.{refusal-keeps-cells}
use Rattle.proof_demand2.specs.Demand2.{told-known}
use Rattle.demands.specs.History.{outcome_on, after_call, told_of, view_on}
use Rattle.demands.specs.Hearing.{remains, left_fate, hear}
use Rattle.demands.specs.Laws.Hearing.{count-heard}
use Rattle.demands.specs.Laws.Unsound.{refuses-unsound}
use Rattle.demands.specs.Laws.Woven.{Unwinds, woven}
use Rattle.demands.specs.Private.{is_of}
use Rattle.proof_neighbours.specs.Neighbours.{openly, hindered, Apart, Neighbours}
use Rattle.proof_neighbours.proofs.Twins.{sees-refl}
use Rattle.proof_neighbours.proofs.Cells.{known-view, quiet-view}
use Rattle.proof_neighbours.proofs.Good.{Good, good-sym, arranged-good, other-good, own-answer, own-good}
use Rattle.proof_neighbours.proofs.Runs.{other-run-good, own-run-good, own-run-told}

-- ---- a start that is not done changes nothing

start-still : (c : Start) (x : Lent) → T (not (is_done (outcome_on (starts c) x).answer && true)) → after_call (starts c) x ≡ x
start-still c x t =
    let said = is_done (outcome_on (starts c) x).answer in
    refusal-keeps-cells (starts c) x.store x.tables (false_of said (subst (λ (b : Bool). T (not b)) (and-true said) t))

module _ (a : ℕ) where
  abbrev Premise : Call → Lent → Type 0
  Premise = Apart hindered openly a

  -- ---- on tables that are not sound nothing changes

  abbrev Stuck : Lent → Lent → Type 0
  Stuck x y = (x ≡ y) × (sound_lent x.store x.tables ≡ false)

  still : (c : Call) (x : Lent) → Premise c x → sound_lent x.store x.tables ≡ false → after_call c x ≡ x
  still (starts c) x t e = start-still c x t
  still (asks q) x t e = ap (λ (o : Outcome Lent). o.after) (refuses-unsound (asks q) x refl e)
  still (arranges q) x t e = ap (λ (o : Outcome Lent). o.after) (refuses-unsound (arranges q) x refl e)
  still (on u d r) x t e = ap (λ (o : Outcome Lent). o.after) (refuses-unsound (on u d r) x refl e)
  still (runs u d r) x t e = ap (λ (o : Outcome Lent). o.after) (refuses-unsound (runs u d r) x refl e)

  unsound-there : (x y : Lent) → Stuck x y → sound_lent y.store y.tables ≡ false
  unsound-there x y r = subst (λ (z : Lent). sound_lent z.store z.tables ≡ false) r.0 r.1

  unsound-after : (c : Call) (x : Lent) → Premise c x → sound_lent x.store x.tables ≡ false → sound_lent (after_call c x).store (after_call c x).tables ≡ false
  unsound-after c x p e = subst (λ (z : Lent). sound_lent z.store z.tables ≡ false) (sym (still c x p e)) e

  stuck : Unwinds (is_of a) left_fate Premise Premise Stuck
  stuck = record {
    left = λ c x y o p r. (still c x p r.1 ∙ r.0, unsound-after c x p r.1);
    right = λ c x y o p r. (r.0 ∙ sym (still c y p (unsound-there x y r)), r.1);
    both = λ c x y o p q r. (still c x p r.1 ∙ r.0 ∙ sym (still c y q (unsound-there x y r)), unsound-after c x p r.1);
    told = λ c x y o p q r. ap (λ (z : Lent). hear (left_fate c) (told_of c z)) r.0;
  }

  -- ---- on sound ones he sees the same

  another : (v : ℕ) → eqb a v ≡ false → v ≢ a
  another v e q = not-both (eqb-eq a v (sym q)) e

  right-good : (c : Call) (x y : Lent) → is_of a c ≡ false → Premise c y → Good a x y → Good a x (after_call c y)
  right-good (starts c) x y e p g = subst (Good a x) (sym (start-still c y p)) g
  right-good (asks q) x y e p g = g
  right-good (arranges q) x y e p g = arranged-good a x y g q
  right-good (on v d r) x y e p g = other-good a x y g v d r (another v e) (rw e at p)
  right-good (runs v d r) x y e p g = other-run-good a x v d (another v e) r y g

  -- a call of the landlord's: the same is heard, and he sees the same
  abbrev OwnAlike : Call → Lent → Lent → Type 0
  OwnAlike c x y = (hear (left_fate c) (told_of c x) ≡ hear (left_fate c) (told_of c y)) × Good a (after_call c x) (after_call c y)

  own-alike : (c : Call) (x y : Lent) → is_of a c ≡ true → Premise c x → Premise c y → Good a x y → OwnAlike c x y
  own-alike (starts c) x y e p q g = absurd (not-both e refl)
  own-alike (asks (save img)) x y e p q g = absurd (not-both e refl)
  own-alike (asks (count u)) x y e p q g = (
    ap (hear (left_fate (asks (count u)))) (told-known (asks (count u)) x g.sound_here) ∙ count-heard u (view_on x) (view_on y)
        ∙ sym (ap (hear (left_fate (asks (count u)))) (told-known (asks (count u)) y g.sound_there)),
    g,
  )
  own-alike (arranges c) x y e p q g = absurd (not-both e refl)
  own-alike (on v d r) x y e p q g =
      subst (λ (u : ℕ). T (not (hindered (on u d r) x)) → T (not (hindered (on u d r) y)) → OwnAlike (on u d r) x y) (eqb→eq a v (rw e tt))
      (λ s t. (λ i. hear remains (record { answer = own-answer a x y g d r s t i; image = none; run = no_run }), own-good a x y g d r s t))
      (rw e at p) (rw e at q)
  own-alike (runs v d r) x y e p q g =
      subst (λ (u : ℕ). T (not (hindered (runs u d r) x)) → T (not (hindered (runs u d r) y)) → OwnAlike (runs u d r) x y) (eqb→eq a v (rw e tt))
      (λ s t. (ap (hear remains) (own-run-told a x y g d r s t), own-run-good a x y g d r s t))
      (rw e at p) (rw e at q)

  goes : Unwinds (is_of a) left_fate Premise Premise (Good a)
  goes = record {
    left = λ c x y o p g. good-sym a y (after_call c x) (right-good c y x o p (good-sym a x y g));
    right = right-good;
    both = λ c x y o p q g. (own-alike c x y o p q g).1;
    told = λ c x y o p q g. (own-alike c x y o p q g).0;
  }

pub neighbours : Neighbours
neighbours a cs ds x same start p q = ⊎_elim
    (λ s. let quiet = quiet-view a x start in
    (woven _ _ _ _ _ (goes a) cs ds x x same p q
    (record { sound_here = s; sound_there = s; quiet_here = quiet; quiet_there = quiet; sees = sees-refl a (view_on x).house (known-view a x s quiet) })).told)
    (λ u. (woven _ _ _ _ _ (stuck a) cs ds x x same p q (refl, u)).told)
    (split-bool (sound_lent x.store x.tables))
