-- Runs on cells that look alike to the landlord: another's changes nothing that he sees; his own tells him the same. Assumes nothing.
use Rattle.std.specs.Prelude.{ℕ, ◌≡◌, refl, ◌≢◌, Bool, true, not, List, map, T, get_or}
use Rattle.std.proofs.Common.{sym, ap, ◌∙◌}
use Rattle.std.proofs.Math.Path.{subst}
use Rattle.std.proofs.Math.Bool.{and-false}
use Rattle.std.proofs.Math.Option.{Option, none, some}
use Rattle.combine.specs.Verdict.{Said, is_done}
use Rattle.combine.specs.Run.{Ran, ran, run_over, admitted}
use Rattle.combine.specs.Laws.Verdict.{Refuses, refuses-test}
use Rattle.combine.specs.Laws.Run.{Related, run-related, admitted-related, run-keeps, admitted-keeps, run-map}
use Rattle.placing.specs.Sizes.{entry_of}
use Rattle.rules.specs.Calls.{Request, Act, uses, write, next, Run, writes, fills, on, runs}
use Rattle.rules.specs.Headings.{Open, handle_of}
use Rattle.rules.specs.Laws.Gates.{gate-related}
use Rattle.rules.specs.Runs.{requests_of, admits, admission, run_answer, run_told}
use Rattle.cells.specs.Says.{house_of}
use Rattle.cells.specs.Outcomes.{Lent, sound_lent, run_out}
use Rattle.model.specs.Model.{File, Body}
use Rattle.proof_calls_sound.specs.Runs.{single}
use Rattle.proof_demand2.specs.Runs.{admission-known}
use Rattle.demands.specs.History.{outcome_on, after_call, told_of, view_on}
use Rattle.demands.specs.Laws.Hearing.{unstopped}
use Rattle.proof_neighbours.specs.Neighbours.{hinders, hindered}
use Rattle.proof_neighbours.specs.Sees.{SameEntry}
use Rattle.proof_neighbours.proofs.Twins.{sat, same-sat}
use Rattle.proof_neighbours.proofs.Own.{Unhindered}
use Rattle.proof_neighbours.proofs.Good.{Good, other-good, own-answer, own-good}

module _ (a : ℕ) where
  -- ---- another's: its single calls are uses, which are not open

  module _ (x : Lent) (v d : ℕ) (other : v ≢ a) where
    uses-good : (f : ℕ → Act) (l : List ℕ) (y : Lent) → Good a x y → Good a x (run_over (single v d) (map (λ n. uses (f n)) l) y).after
    uses-good f l y g =
        subst (λ (r : Ran Lent). Good a x r.after) (sym (run-map (λ (n : ℕ). uses (f n)) (single v d) l y))
        (run-keeps (λ (n : ℕ) (z : Lent). single v d (uses (f n)) z) (Good a x) (λ n z k. other-good a x z k v d (uses (f n)) other (subst (λ (b : Bool). T (not b)) (sym (and-false (is_done (outcome_on (on v d (uses (f n))) z).answer))) tt)) l y g)

    pub other-run-good : (r : Run) (y : Lent) → Good a x y → Good a x (after_call (runs v d r) y)
    unfolding run_out
    other-run-good (writes p l) y g = admitted-keeps (Good a x) y (admission (sound_lent y.store y.tables) (writes p l) v d (house_of y.tables)) _ g (uses-good (λ n. write p n) l y g)
    other-run-good (fills p l) y g = admitted-keeps (Good a x) y (admission (sound_lent y.store y.tables) (fills p l) v d (house_of y.tables)) _ g (uses-good (λ n. next p) l y g)

  -- ---- his own

  -- 2, 4 and 5 are judged alike
  placed-admits : (r : Run) (x : Open Body) (q : Option ℕ) → admits r (handle_of (some x)) ≡ admits r (handle_of (some (sat x q)))
  placed-admits (writes p l) x q = refl
  placed-admits (fills p l) x q = refl

  admits-same : (r : Run) (rs qs : List (Option File)) (x y : Option (Open Body)) → SameEntry a rs qs x y → admits r (handle_of x) ≡ admits r (handle_of y)
  admits-same r rs qs none none t = refl
  admits-same r rs qs none (some y) t = absurd t
  admits-same r rs qs (some x) none t = absurd t
  admits-same r rs qs (some x) (some y) t =
      placed-admits r x y.handle.place ∙ ap (λ (z : Open Body). admits r (handle_of (some z))) (sym (same-sat a rs qs x y t))

  module _ (x y : Lent) (g : Good a x y) (d : ℕ) (r : Run) where
    abbrev judged : Lent → Said
    judged z = admission (sound_lent z.store z.tables) r a d (house_of z.tables)

    judged-same : judged x ≡ judged y
    judged-same =
        admission-known a d r x g.sound_here
        ∙ gate-related ◌≡◌ (λ n. refl) true a d _ _
        (λ la ld. admits-same r (view_on x).house.records (view_on y).house.records
        (get_or (view_on x).house.openings (entry_of a d) none) (get_or (view_on y).house.openings (entry_of a d) none) (g.sees.mine d ld))
        ∙ sym (admission-known a d r y g.sound_there)

    one_alike : (q : Request) (z w : Lent) → Good a z w → Refuses Unhindered (single a d q z).answer → Refuses Unhindered (single a d q w).answer
        → ((single a d q z).answer ≡ (single a d q w).answer) × Good a (single a d q z).after (single a d q w).after
    one_alike q z w k s t =
        let here = refuses-test hinders (λ n. tt) (single a d q z).answer s in
        let there = refuses-test hinders (λ n. tt) (single a d q w).answer t in
        (own-answer a z w k d q here there, own-good a z w k d q here there)

    unhindered-stop : (z : Lent) → T (not (hindered (runs a d r) z)) → Unhindered (run_out r z.store z.tables a d).stop
    unhindered-stop z t = unstopped hinders (run_out r z.store z.tables a d).stop (run_answer (run_out r z.store z.tables a d)) tt t

    module _ (p : T (not (hindered (runs a d r) x))) (q : T (not (hindered (runs a d r) y))) where
      own-run : Related (Good a) (run_out r x.store x.tables a d) (run_out r y.store y.tables a d)
      unfolding run_out
      own-run = subst (λ (v : Said). Unhindered (admitted y v there).stop → Related (Good a) (admitted x (judged x) here) (admitted y v there)) judged-same
          (λ t. admitted-related (Good a) Unhindered Unhindered x y (judged x) here there g (unhindered-stop x p) t (λ s u. run-related (Good a) (single a d) (single a d) Unhindered Unhindered one_alike (requests_of r) x y g s u))
          (unhindered-stop y q)
        where
          here : Ran Lent
          here = run_over (single a d) (requests_of r) x

          there : Ran Lent
          there = run_over (single a d) (requests_of r) y

      pub own-run-good : Good a (after_call (runs a d r) x) (after_call (runs a d r) y)
      own-run-good = own-run.after

      pub own-run-told : told_of (runs a d r) x ≡ told_of (runs a d r) y
      own-run-told = go r (λ i. ran (own-run.many i) (own-run.stop i) (own-run.told i) x)
        where
          -- what is told of a run does not say what it left
          told : Run → Lent → Ran Lent
          told r z = ran (run_out r z.store z.tables a d).many (run_out r z.store z.tables a d).stop (run_out r z.store z.tables a d).told x

          go : (r : Run) → told r x ≡ told r y → told_of (runs a d r) x ≡ told_of (runs a d r) y
          go (writes n l) e = ap (λ (k : Ran Lent). record { answer = run_answer k; image = none; run = run_told (writes n l) k }) e
          go (fills n l) e = ap (λ (k : Ran Lent). record { answer = run_answer k; image = none; run = run_told (fills n l) k }) e
