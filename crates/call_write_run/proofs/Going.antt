-- The loop over turns, in continuation form, and the run at the gate and behind it: i is an entry of 32, p a pointer, l the caller's list, s the
-- store's cells, t the tables'. Assumes nothing.
use Rattle.std.specs.Prelude.{Err, Ok}
use Prim.Native.Nat.{ℕ, suc, ◌+◌, ◌-◌, ◌≤◌, ◌<◌}
use mathlib.Core.Path.{◌≡◌, refl, sym, ap, subst, ◌∙◌}
use mathlib.Core.Bool.{Bool, true, false}
use mathlib.Core.Option.{some}
use mathlib.Core.List.{List, [], ◌∷◌, map}
use native.Mathlib.Nat.{add-zero, zero-add}
use native.Mathlib.Omega.{arith}
use lib.Dec.{eqb}
use lib.ListN.{length, get_or, take, drop, length-map, length-drop}
use lib.Seq.{drop-cons, drop-length, drop-drop, take_all}
use Rattle.combine.specs.Run.{Ran, ran, admitted}
use Rattle.combine.specs.Laws.Mapped.{map-drop}
use Rattle.combine.specs.Laws.Run.{behind, run_none, run-stops}
use Rattle.answers.specs.declared.Refusal.{Refusal}
use Rattle.answers.specs.declared.Refusal.TheVariants.{Species, Pointer, Permit}
use Rattle.answers.specs.Said.{refusal_number}
use Rattle.numbers.specs.Numbers.{is_foreign}
use Rattle.placing.specs.declared.Position.{Position}
use Rattle.rules.specs.Calls.{Act, write, writes}
use Rattle.rules.specs.Runs.{admits}
use Rattle.tables.specs.declared.Opening.{Opening}
use Rattle.tables.specs.Layout.{opening_at}
use Rattle.tables.specs.Fields.{value_of}
use Rattle.tables.specs.Handles.{handle_in}
use Rattle.cells.specs.Outcomes.{Lent, lent, outcome, run_out}
use Rattle.cells.specs.Runs.{Written, written, written_by}
use Rattle.gate.specs.Gates.{Gate, reach_of}
use Rattle.gate_laws.specs.Standing.{Standing}
use Rattle.gate_laws.specs.Gated.{use-standing}
use Rattle.run_laws.specs.Singles.{use_on, uses_on, writes_of}
use Rattle.run_laws.specs.Admitted.{run-refused, run-behind, no_kind, no_pointer, no-permit, works-on}
use Rattle.call_write_run.specs.Turned.{Writes, Turn, Turned, Admitted, Ended, Handed, wrote}

-- the rest of the list, as the code has it
rest-is : (l : List ℕ) (n : ℕ) → take (length l - n) (drop n l) ≡ drop n l
rest-is l n = take_all (length l - n) (drop n l) (omega (arith, length-drop n l))

-- ---- n elements are written; that and a run of the rest comes to the goal

pub record Going (i p : ℕ) (l : List ℕ) (goal : Written) (n : ℕ) (s t : List ℕ) : Type 0 where
  pub standing : Standing (length s) t i
  pub left : wrote l n (uses_on i (writes_of p (drop n l)) (lent s t)) ≡ goal

module _ (i p : ℕ) (l : List ℕ) (goal : Written) (n : ℕ) (s t : List ℕ) (g : Going i p l goal n s t) where
  pub going-ends : n ≤ length l → length l ≤ n → (all : Unit {0}) → Handed l (Ok all) (lent s t) goal
  unfolding wrote
  going-ends h m all =
      let e : n ≡ length l = omega arith in
      let none : drop n l ≡ [] = ap (λ (k : ℕ). drop k l) e ∙ drop-length l in
      let here : uses_on i (writes_of p (drop n l)) (lent s t) ≡ ran 0 0 [] (lent s t) = ap (λ (x : List ℕ). uses_on i (writes_of p x) (lent s t)) none ∙ run_none (use_on i) (lent s t) in
      record { says = ap (λ (x : List ℕ). written x 0 (lent s t)) (sym (ap (λ (k : ℕ). drop k l) (add-zero n) ∙ none)) ∙ ap (wrote l n) (sym here) ∙ g.left }

  -- ---- a turn

  module _ (s' t' : List ℕ) (turn : Turn) (a : Turned i p (take (length l - n) (drop n l)) s t turn s' t') where
    went : (k : ℕ) → turn ≡ Ok k → Writes i p (drop n l) s t k s' t'
    went k e = subst (λ (x : List ℕ). Writes i p x s t k s' t') (rest-is l n) (subst (λ (q : Turn). Turned i p (take (length l - n) (drop n l)) s t q s' t') e a).says

    pub turn-few : (k : ℕ) → turn ≡ Ok k → n ≤ length l → n + k ≤ length l
    turn-few k e h = let w = went k e in omega (arith, w.many, w.goes.few, length-map (drop n l) (write p), length-drop n l)

    pub turn-goes : (k : ℕ) → turn ≡ Ok k → Going i p l goal (n + k) s' t'
    unfolding wrote behind
    turn-goes k e =
        let w = went k e in
        let q : Ran Lent = uses_on i (writes_of p (drop (n + k) l)) (lent s' t') in
        let rest : drop (length w.told) (writes_of p (drop n l)) ≡ writes_of p (drop (n + k) l) =
        ap (λ (m : ℕ). drop m (writes_of p (drop n l))) w.many ∙ sym (map-drop (write p) k (drop n l)) ∙ ap (map (write p)) (drop-drop k n l) in
        let here : uses_on i (writes_of p (drop n l)) (lent s t) ≡ behind w.told q = w.goes.left ∙ ap (λ (x : List Act). behind w.told (uses_on i x (lent s' t'))) rest in
        let all : n + k + q.many ≡ n + (length w.told + q.many) = omega (arith, w.many) in
        record {
          standing = w.goes.standing;
          left = ap (λ (m : ℕ). written (drop m l) q.stop q.after) all ∙ ap (wrote l n) (sym here) ∙ g.left;
        }

    pub turn-stops : (why : Refusal) → turn ≡ Err why → n < length l → Handed l (Err (n, why)) (lent s' t') goal
    unfolding wrote
    turn-stops why e h =
        let cons : drop n l ≡ get_or l n 0 ∷ drop (suc n) l = drop-cons l n 0 h in
        let first : get_or (take (length l - n) (drop n l)) 0 0 ≡ get_or l n 0 = ap (λ (x : List ℕ). get_or x 0 0) (rest-is l n ∙ cons) in
        let one : use_on i (write p (get_or l n 0)) (lent s t) ≡ outcome (Err why) s' t' =
        ap (λ (m : ℕ). use_on i (write p m) (lent s t)) (sym first) ∙ (subst (λ (q : Turn). Turned i p (take (length l - n) (drop n l)) s t q s' t') e a).says in
        let here : uses_on i (writes_of p (drop n l)) (lent s t) ≡ ran 0 (refusal_number why) [] (lent s' t') =
        ap (λ (x : List ℕ). uses_on i (writes_of p x) (lent s t)) cons
        ∙ run-stops (use_on i) (write p (get_or l n 0)) (writes_of p (drop (suc n) l)) (refusal_number why) (lent s t) (lent s' t') one in
        record {
          says = (omega (arith, h), ap (λ (k : ℕ). written (drop k l) (refusal_number why) (lent s' t')) (sym (add-zero n)) ∙ ap (wrote l n) (sym here) ∙ g.left);
        }

-- ---- the gate, and 19, 4 and 5: g is what the gate says

module _ (s t : List ℕ) (u e p : ℕ) (g : Gate) (eg : g ≡ reach_of (length s) t u e) where
  pub admit-refused : (why : Refusal) → g ≡ Err why → (d : Gate) → d ≡ Err why → Admitted p s t u e d
  admit-refused why at d ed =
      subst (λ (x : Gate). Admitted p s t u e x) (sym ed) (record { says = λ l. run-refused (writes p l) s t u e g eg why at })

  -- o is the opening that was loaded, f says that its species is signed, v is the pointer's value
  module _ (i : ℕ) (at : g ≡ Ok i) where
    pub admit-standing : Standing (length s) t i
    admit-standing = use-standing s t u e g eg i at

    module _ (o : Opening) (eo : o ≡ opening_at t i) (f : Bool) (ef : f ≡ is_foreign false o.species) where
      gated : (l : List ℕ) → run_out (writes p l) s t u e ≡ admitted (lent s t) (admits (writes p l) (some (handle_in (opening_at t i)))) (uses_on i (writes_of p l) (lent s t))
      gated l = run-behind (writes p l) s t u e g eg i at

      pub admit-kind : f ≡ true → Admitted p s t u e (Err Species)
      admit-kind k = record { says = λ l. gated l ∙ no_kind t i o eo f ef p _ refl _ refl true (lent s t) (uses_on i (writes_of p l) (lent s t)) k }

      module _ (kind : f ≡ false) (v : Position) (ev : v.0 ≡ value_of o p) (b : Bool) (eb : b ≡ eqb v.0 0) where
        pub admit-none : b ≡ true → Admitted p s t u e (Err Pointer)
        admit-none z = record { says = λ l. gated l ∙ no_pointer t i o eo f ef p v.0 ev b eb true (lent s t) (uses_on i (writes_of p l) (lent s t)) kind z }

        module _ (there : b ≡ false) where
          pub admit-permit : (o.permit ≡ 1 → ⊥) → Admitted p s t u e (Err Permit)
          admit-permit d = record { says = λ l. gated l ∙ no-permit t i o eo f ef p v.0 ev b eb true (lent s t) (uses_on i (writes_of p l) (lent s t)) kind there refl d }

          pub admit-on : o.permit ≡ 1 → Admitted p s t u e (Ok i)
          admit-on h = record { says = (admit-standing, λ l. gated l ∙ works-on t i o eo f ef p v.0 ev b eb true (lent s t) (uses_on i (writes_of p l) (lent s t)) kind there h) }

-- ---- the whole run: d is what was admitted

module _ (s t : List ℕ) (u e p : ℕ) (l : List ℕ) (d : Gate) (a : Admitted p s t u e d) where
  said : (x : Gate) → d ≡ x → Admitted p s t u e x
  said x q = subst (λ (y : Gate). Admitted p s t u e y) q a

  module _ (i : ℕ) (q : d ≡ Ok i) where
    pub run-goes : (r : Ended) (x : Lent) → Handed l r x (wrote l 0 (uses_on i (writes_of p l) (lent s t))) → Handed l r x (written_by p l (run_out (writes p l) s t u e))
    unfolding wrote
    run-goes r x h =
        let w : Ran Lent = uses_on i (writes_of p l) (lent s t) in
        subst (λ (z : Written). Handed l r x z) (ap (λ (m : ℕ). written (drop m l) w.stop w.after) (zero-add w.many) ∙ sym (ap (written_by p l) ((said (Ok i) q).says.1 l))) h

-- ---- what the caller has: x are the cells, and w is what he is to have

module _ (l : List ℕ) (r : Ended) (x : Lent) (w : Written) (h : Handed l r x w) where
  handed : (y : Ended) → r ≡ y → Handed l y x w
  handed y q = subst (λ (z : Ended). Handed l z x w) q h

  pub hands-none : (all : Unit {0}) → r ≡ Ok all → written (take (length l - length l) (drop (length l) l)) 0 x ≡ w
  hands-none all q = ap (λ (y : List ℕ). written y 0 x) (rest-is l (length l) ∙ drop-length l) ∙ (handed (Ok all) q).says

  module _ (n : ℕ) (why : Refusal) (q : r ≡ Err (n, why)) where
    pub hands-within : n ≤ length l
    hands-within = (handed (Err (n, why)) q).says.0

    pub hands-rest : (number : ℕ) → number ≡ refusal_number why → written (take (length l - n) (drop n l)) number x ≡ w
    hands-rest number en = (λ j. written (rest-is l n j) (en j) x) ∙ (handed (Err (n, why)) q).says.1

pub ruleset going = (going-ends, turn-few, turn-goes)

pub ruleset admitting = (admit-refused, admit-standing, admit-kind, admit-none, admit-permit, admit-on)

pub ruleset running = (run-goes)

pub ruleset handing = (hands-none, hands-within, hands-rest)
