-- What a turn says, as the code's steps give its premises: at entry i of 32, through pointer p, with the store's cells s, the tables' t and the list l,
-- of which n places are filled; o is the opening that was loaded. Assumes nothing.
use Rattle.std.specs.Prelude.{Result, Err, Ok}
use Prim.Native.Nat.{ℕ, zero, suc, ◌+◌, ◌-◌, ◌*◌, ◌≤◌, ◌<◌}
use mathlib.Core.Path.{◌≡◌, refl, sym, ap, subst, ◌∙◌}
use mathlib.Core.Bool.{false}
use mathlib.Core.List.{List, [], ◌∷◌, ◌++◌}
use native.Mathlib.Nat.{le_of_suc-le-suc, not-suc-le-zero}
use native.Mathlib.Numerals.{add-one}
use native.Mathlib.Omega.{arith}
use lib.ListN.{length, get_or, take, drop, set, length-map, length-drop}
use lib.Seq.{paste, drop-cons, set_split, append_snoc}
use Rattle.combine.specs.Outcome.{Outcome}
use Rattle.answers.specs.declared.Refusal.{Refusal}
use Rattle.answers.specs.Said.{Answer, refusal_number}
use Rattle.placing.specs.declared.Segment.{Segment}
use Rattle.placing.specs.Sizes.{segment_cells}
use Rattle.placing.specs.Placing.{position}
use Rattle.store.specs.Store.{element_at}
use Rattle.rules.specs.Calls.{Act, reset, next}
use Rattle.rules.specs.Access.{next_rule}
use Rattle.tables.specs.declared.Opening.{Opening}
use Rattle.tables.specs.Layout.{opening_at, put_opening}
use Rattle.tables.specs.Fields.{value_of}
use Rattle.tables.specs.Handles.{handle_in, pointed}
use Rattle.cells.specs.Outcomes.{Lent, lent, outcome}
use Rattle.cells.specs.Runs.{Filled}
use Rattle.gate_laws.specs.Standing.{Standing, standing-fits}
use Rattle.gate_laws.specs.Known.{standing, standing-known}
use Rattle.gate_laws.specs.Used.{used_out, used-no}
use Rattle.run_laws.specs.Singles.{use_on, nexts_of, Goes}
use Rattle.run_laws.specs.Stands.{use-used, one-goes}
use Rattle.run_laws.specs.Along.{Steps, goes-along}
use Rattle.run_spans.specs.Ahead.{Follow}
use Rattle.run_takes.specs.Takes.{taken, Points, Far, Took}
use Rattle.run_takes.proofs.Laws.{length_taken}
use Rattle.call_next_prev.specs.declared.Reading.{Reading}
use Rattle.call_next_prev.specs.Reads.{segment_for, NextSaid, NextPlan}
use Rattle.call_next_prev.proofs.Delivers.{next_fits}
use Rattle.call_fill_run.specs.Turned.{Turn, TurnSaid, Turned, Handed}
use Rattle.call_fill_run.proofs.Filling.{Filling, filling-starts, filling-ends, filling-stops, turn-fits, filling-on}
use Rattle.call_fill_run.proofs.Nexts.{next-kind, next-allowed, Within, next-steps}

-- ---- lists

-- one place is set
set-pasted : (l : List ℕ) (n v : ℕ) → n < length l → set l n v ≡ paste l n (v ∷ []) 1
set-pasted l n v h =
    set_split l n v h ∙ sym (append_snoc (take n l) v (drop (suc n) l)) ∙ ap (λ (k : ℕ). take n l ++ (v ∷ []) ++ drop k l) (sym (add-one n))

-- each act is the same
nexts-at : (p : ℕ) (l : List ℕ) (j : ℕ) → j < length l → get_or (nexts_of p l) j reset ≡ next p
nexts-at p [] j h = absurd (not-suc-le-zero h)
nexts-at p (x ∷ l) zero h = refl
nexts-at p (x ∷ l) (suc j) h = nexts-at p l j (le_of_suc-le-suc h)

-- ---- the single calls of a stretch

pub far-follows : (o : Opening) (p left k : ℕ) → Far o p left k → Follow o.species (value_of o p) k
far-follows o p left k f = record { same = f.same }

module _ (i p : ℕ) (s t l : List ℕ) (n k : ℕ) where
  -- with the opening o: the elements are told, and the pointer moves
  abbrev GoesAt : Opening → Segment → Type 0
  GoesAt o g = Goes i (nexts_of p (drop n l)) s t (taken s o.species g (value_of o p) k) s (put_opening t i (pointed o p (position (value_of o p + k))))

  stretch-goes : let o = opening_at t i in Standing (length s) t i → Within o p (length l - n) k → n < length l → 1 ≤ k → GoesAt o (segment_for o (value_of o p))
  unfolding taken
  stretch-goes w a h some =
      let o = opening_at t i in
      let tell : ℕ → ℕ = (λ j. element_at s o.species (segment_for o (value_of o p)) (position (value_of o p + j))) in
      let few = a.far.few in
      goes-along i p (nexts_of p (drop n l)) s t w a.points.known k some (omega (arith, length-map (drop n l) (λ m. next p), length-drop n l)) (λ j. s) refl tell
      (λ j lt q. subst (λ (b : Act). Steps i p b s (put_opening t i (pointed o p (position (value_of o p + j)))) (tell j) s)
      (sym (nexts-at p (drop n l) j (omega (arith, lt, length-drop n l)))) (next-steps s t i w p (length l - n) k a j lt q))

-- ---- one single call

module _ (i p : ℕ) (s t : List ℕ) (w : Standing (length s) t i) (o : Opening) (eo : o ≡ opening_at t i) where
  single-call : (z : Outcome Lent) → z ≡ used_out s t i o (next_rule false p (handle_in o)) → z ≡ use_on i (next p) (lent s t)
  single-call z e = e ∙ ap (λ (y : Opening). used_out s t i y (next_rule false p (handle_in y))) eo ∙ sym (use-used s t i w (next p))

  module _ (l : List ℕ) (n : ℕ) where
    module _ (t' : List ℕ) (a : Answer) (e : outcome a s t' ≡ used_out s t i o (next_rule false p (handle_in o))) where
      pub single-stops : (why : Refusal) → a ≡ Err why → (r : Turn) → r ≡ Err why → Turned i p s t l n r t' l
      single-stops why ea r er =
          subst (λ (y : Turn). Turned i p s t l n y t' l) (sym er) (record { says = record { list = refl; call = ap (λ (b : Answer). outcome b s t') (sym ea) ∙ single-call _ e } })

      pub single-went : (v : ℕ) → a ≡ Ok v → n < length l → Turned i p s t l n (Ok 1) t' (set l n v)
      single-went v ea h =
          let one = sym (ap (λ (b : Answer). outcome b s t') (sym ea) ∙ single-call _ e) in
          let acts : next p ∷ nexts_of p (drop (suc n) l) ≡ nexts_of p (drop n l) = sym (ap (nexts_of p) (drop-cons l n 0 h)) in
          record {
            says = record {
              told = v ∷ [];
              long = refl;
              list = set-pasted l n v h;
              goes = subst (λ (y : List Act). Goes i y s t (v ∷ []) s t') acts (one-goes s t i w (next p) (nexts_of p (drop (suc n) l)) v s t' one);
            };
          }

    -- ---- what a reading says

    module _ (d : Result Reading Refusal) (a : NextPlan o false p d) where
      plan : (y : Result Reading Refusal) → d ≡ y → NextPlan o false p y
      plan y e = subst (λ (x : Result Reading Refusal). NextPlan o false p x) e a

      pub reading-stops : (why : Refusal) → d ≡ Err why → (r : Turn) → r ≡ Err why → Turned i p s t l n r t l
      reading-stops why e r er =
          subst (λ (y : Turn). Turned i p s t l n y t l) (sym er)
          (record { says = record { list = refl; call = single-call _ (used-no s t i o (next_rule false p (handle_in o)) (refusal_number why) (plan (Err why) e).plan) } })

      module _ (r : Reading) (e : d ≡ Ok r) where
        -- the reading that is to be delivered
        pub reading-plan : NextPlan o false p (Ok r)
        reading-plan = plan (Ok r) e

        said : NextSaid o false p (Ok r)
        said = reading-plan.plan

        pub reading-points : Points o p
        reading-points =
            let v = said.0 in
            let lies = said.1.lies in
            let f = (standing-known s t i w o eo).file in
            record { species = f.species; known = said.1.known; some = omega arith; before = omega arith; last = f.last }

        pub reading-fits : r.segment.0 * segment_cells + segment_cells ≤ length s
        reading-fits = next_fits t o false p r reading-plan (standing-known s t i w o eo) (length s) (standing-fits w)

        pub stretch-went : (k : ℕ) (t' l' : List ℕ) → Far o p (length l - n) k → n < length l → (k ≡ 0 → ⊥) → Took s t i o p r.segment l n k t' l' → Turned i p s t l n (Ok k) t' l'
        stretch-went k t' l' far h some took =
            let v = said.0 in
            let lies = said.1.lies in
            let which : r.segment ≡ segment_for o (value_of o p) = lies.which ∙ ap (segment_for o) (sym v) in
            let within : Within o p (length l - n) k = record { points = reading-points; low = omega arith; kind = next-kind o p _ said.1.told; allowed = next-allowed o p _ said.1.told; far = far } in
            let goes : GoesAt i p s t l n k o (segment_for o (value_of o p)) =
            subst (λ (y : Opening). GoesAt i p s t l n k y (segment_for y (value_of y p))) (sym eo)
            (stretch-goes i p s t l n k w (subst (λ (y : Opening). Within y p (length l - n) k) eo within) h (omega (arith, some))) in
            record {
              says = record {
                told = taken s o.species r.segment (value_of o p) k;
                long = length_taken s o.species r.segment (value_of o p) k;
                list = took.list;
                goes = subst (λ (y : List ℕ). Goes i (nexts_of p (drop n l)) s t (taken s o.species r.segment (value_of o p) k) s y) (sym took.tables) (subst (GoesAt i p s t l n k o) (sym which) goes);
              };
            }

pub ruleset turns = (standing, single-stops, single-went, reading-stops, reading-plan, reading-points, reading-fits, stretch-went)

-- ---- the loop

module _ (i p : ℕ) (goal : Filled) (n : ℕ) (s t l : List ℕ) (w : Filling i p goal n s t l) where
  module _ (t' l' : List ℕ) (r : Turn) (a : Turned i p s t l n r t' l') where
    turned : (q : Turn) → r ≡ q → TurnSaid i p s t l n q t' l'
    turned q e = (subst (λ (y : Turn). Turned i p s t l n y t' l') e a).says

    pub loop-goes : (m : ℕ) → r ≡ Ok m → Filling i p goal (n + m) s t' l'
    loop-goes m e = filling-on i p goal n s t l w t' l' m (turned (Ok m) e)

    pub loop-stops : (why : Refusal) → r ≡ Err why → n < length l → Handed l' (Err (n, why)) (lent s t') goal
    loop-stops why e h = filling-stops i p goal n s t l w t' l' h why (turned (Err why) e)

pub ruleset loops = (filling-starts, filling-ends, loop-goes, loop-stops)
