-- Laws of runs on cells: a run that is refused leaves all as it stood; a run of at least one element is its single calls, for what is judged before
-- the first is judged by it too; and what a run hands over admits one outcome. Assumes nothing.
use Rattle.std.specs.Prelude.{ℕ, ◌≡◌, Bool, ◌&&◌, cond, List, [], ◌∷◌, eqb, ltb, get_or}
use Rattle.std.proofs.Math.Path.{refl, sym}
use Rattle.std.proofs.Common.{ap, ◌∙◌, eqb-true}
use Rattle.std.proofs.Math.Bool.{true, false, not}
use Rattle.std.proofs.Math.Option.{Option, none, some}
use Rattle.combine.specs.Verdict.{Verdict, Said, refused, done, is_done, on_done, refuse◌when◌else◌}
use Rattle.combine.specs.Outcome.{outcome_of, settle}
use Rattle.combine.specs.Run.{Ran, run_over, admitted}
use Rattle.combine.specs.Laws.Below.{not-both}
use Rattle.combine.specs.Laws.Outcome.{refusal-keeps}
use Rattle.combine.specs.Laws.Run.{run-refused, run-stops}
use Rattle.numbers.specs.Numbers.{is_foreign}
use Rattle.placing.specs.Sizes.{greatest_user, greatest_entry, entry_of}
use Rattle.rules.specs.Calls.{Request, uses, write, next, Run, writes, fills}
use Rattle.rules.specs.Headings.{Handle, value, handle_of}
use Rattle.rules.specs.Effects.{Use, Effect, used}
use Rattle.rules.specs.Access.{write_rule, next_rule, pointer_gate}
use Rattle.rules.specs.Gates.{user_gate, entry_gate}
use Rattle.rules.specs.Levels.{ruled, or_blank}
use Rattle.rules.specs.Runs.{requests_of, admits, admission, run_answer}
use Rattle.segments.specs.Free.{SegmentOpening}
use Rattle.segments.specs.Deeds.{segment_level}
use Rattle.cells.specs.Says.{house_of}
use Rattle.cells.specs.Outcomes.{Lent, lent, sound_lent, performed, request_out, run_out}
use Rattle.cells.specs.Runs.{Written, written, Filled, filled}

-- ---- refused

-- a run that is refused came to nothing
run_none : {S : Type 0} (r : Ran S) → is_done (run_answer r) ≡ false → r.many ≡ 0
run_none r e = go (eqb r.many 0) refl (eqb r.stop 0) e
  where
    go : (a : Bool) → eqb r.many 0 ≡ a → (b : Bool) → is_done (cond (a && not b) (refused r.stop) (done r.many)) ≡ false → r.many ≡ 0
    go true p b q = eqb-true r.many 0 p
    go false p b q = absurd (not-both refl q)

module _ (s t : List ℕ) (u e : ℕ) where
  -- the single calls
  abbrev calls : List Request → Ran Lent
  calls l = run_over (λ q x. request_out q x.store x.tables u e) l (lent s t)

  pub run-refusal : (r : Run) → is_done (run_answer (run_out r s t u e)) ≡ false → (run_out r s t u e).after ≡ lent s t
  unfolding run_out request_out
  run-refusal r d = go (admission (sound_lent s t) r u e (house_of t)) (run_none (run_out r s t u e) d)
    where
      go : (v : Said) → (admitted (lent s t) v (calls (requests_of r))).many ≡ 0 → (admitted (lent s t) v (calls (requests_of r))).after ≡ lent s t
      go (refused n) q = refl
      go (done n) q = run-refused (λ (q : Request) (x : Lent). request_out q x.store x.tables u e) (λ q x p. refusal-keeps _ _ p) (requests_of r) (lent s t) q

  -- ---- of at least one element

  -- what the entry's own rule says of a request
  abbrev own : Request → Option SegmentOpening → Verdict (ℕ × Lent)
  own q x = on_done (performed s t (entry_of u e) (or_blank (segment_level s) x)) (ruled (segment_level s) q u (house_of t) x)

  -- refused before the first call, and so by it
  unfoldable Same : Said → Verdict (ℕ × Lent) → Type 0
  Same (refused k) v = settle (lent s t) v ≡ outcome_of (refused k) (lent s t)
  Same (done k) v = Unit {0}

  -- the rules of write and next begin with the pointer's gate
  gate_same : (signed : Bool) (p : ℕ) (needs : Bool) (h : Handle) (v : Verdict Use) (f : Effect → ℕ × Lent)
      → Same (pointer_gate signed p needs h (done 0)) (on_done f (on_done used (pointer_gate signed p needs h v)))
  unfolding Same settle refuse◌when◌else◌
  gate_same signed p needs h v f = go (is_foreign signed h.species) (eqb (value h p) 0) (needs && not h.permit)
    where
      go : (a b c : Bool)
          → Same (refuse 19 when a else refuse 4 when b else refuse 5 when c else done 0) (on_done f (on_done used (refuse 19 when a else refuse 4 when b else refuse 5 when c else v)))
      go true b c = refl
      go false true c = refl
      go false false true = refl
      go false false false = tt

  entry-same : (a b c : Bool) (w : Said) (v : Verdict (ℕ × Lent)) → Same w v
      → Same (refuse 20 when not a else refuse 1 when b else refuse 2 when c else w) (refuse 20 when not a else refuse 1 when b else refuse 2 when c else v)
  unfolding Same settle refuse◌when◌else◌
  entry-same false b c w v h = refl
  entry-same true true c w v h = refl
  entry-same true false true w v h = refl
  entry-same true false false w v h = h

  module _ (r : Run) (q : Request) (rest : List Request) (first : requests_of r ≡ q ∷ rest)
      (alike : (x : Option SegmentOpening) → Same (admits r (handle_of x)) (own q x)) where
    there : Option SegmentOpening
    there = get_or (house_of t).openings (entry_of u e) none

    first-same : Same (admission (sound_lent s t) r u e (house_of t)) (entry_gate (sound_lent s t) u e (own q there))
    unfolding entry_gate user_gate there
    first-same = entry-same (sound_lent s t) (ltb greatest_user u) (ltb greatest_entry e) _ _ (alike there)

    stopped : (k : ℕ) → Same (refused k) (entry_gate (sound_lent s t) u e (own q there)) → request_out q s t u e ≡ outcome_of (refused k) (lent s t)
    unfolding Same request_out there
    stopped k h = h

    is-calls : run_out r s t u e ≡ calls (requests_of r)
    unfolding run_out
    is-calls = go (admission (sound_lent s t) r u e (house_of t)) first-same
      where
        go : (w : Said) → Same w (entry_gate (sound_lent s t) u e (own q there)) → admitted (lent s t) w (calls (requests_of r)) ≡ calls (requests_of r)
        go (done k) h = refl
        go (refused k) h =
            sym (ap calls first ∙ run-stops (λ (p : Request) (x : Lent). request_out p x.store x.tables u e) q rest k (lent s t) (lent s t) (stopped k h))

  pub write-run-is-calls : (p n : ℕ) (l : List ℕ) → run_out (writes p (n ∷ l)) s t u e ≡ run_over (λ q x. request_out q x.store x.tables u e) (requests_of (writes p (n ∷ l))) (lent s t)
  unfolding Same settle write_rule
  write-run-is-calls p n l = is-calls (writes p (n ∷ l)) (uses (write p n)) (requests_of (writes p l)) refl alike
    where
      alike : (x : Option SegmentOpening) → Same (admits (writes p (n ∷ l)) (handle_of x)) (own (uses (write p n)) x)
      alike none = refl
      alike (some x) = gate_same false p true x.handle _ _

  pub fill-run-is-calls : (p n : ℕ) (l : List ℕ) → run_out (fills p (n ∷ l)) s t u e ≡ run_over (λ q x. request_out q x.store x.tables u e) (requests_of (fills p (n ∷ l))) (lent s t)
  unfolding Same settle next_rule
  fill-run-is-calls p n l = is-calls (fills p (n ∷ l)) (uses (next p)) (requests_of (fills p l)) refl alike
    where
      alike : (x : Option SegmentOpening) → Same (admits (fills p (n ∷ l)) (handle_of x)) (own (uses (next p)) x)
      alike none = refl
      alike (some x) = gate_same false p (eqb p 0) x.handle _ _

-- ---- a promise that is an equation of what a run hands over "admits one outcome"

pub one_written : (w : Written) (l l' : List ℕ) (n n' : ℕ) (x x' : Lent) → written l n x ≡ w → written l' n' x' ≡ w → (l ≡ l') × (n ≡ n') × (x ≡ x')
unfolding written
one_written w l l' n n' x x' p q =
    let e = p ∙ sym q in
    (ap (λ (y : Written). y.rest) e, ap (λ (y : Written). y.place) e, ap (λ (y : Written). y.cells) e)

pub one-filled : (f : Filled) (k k' n n' : ℕ) (l l' : List ℕ) (x x' : Lent) → filled k n l x ≡ f → filled k' n' l' x' ≡ f → (k ≡ k') × (n ≡ n') × (l ≡ l') × (x ≡ x')
unfolding filled
one-filled f k k' n n' l l' x x' p q =
    let e = p ∙ sym q in
    (ap (λ (y : Filled). y.many) e, ap (λ (y : Filled). y.place) e, ap (λ (y : Filled). y.list) e, ap (λ (y : Filled). y.cells) e)
