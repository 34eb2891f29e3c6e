-- A fill at the gate and behind it, as the code's steps give its premises: s is the store's cells, t the tables', l the list, p a pointer.
-- Assumes nothing.
use Rattle.std.specs.Prelude.{Err, Ok}
use Prim.Native.Nat.{ℕ}
use mathlib.Core.Path.{◌≡◌, refl, sym, ap, subst, ◌∙◌}
use mathlib.Core.Bool.{Bool, true, false}
use mathlib.Core.List.{List}
use lib.Dec.{eqb}
use lib.ListN.{length}
use borrow.Author.Tests.{eq-eqb, ne_eqb}
use Rattle.combine.specs.Verdict.{done}
use Rattle.combine.specs.Run.{admitted}
use Rattle.answers.specs.declared.Refusal.{Refusal}
use Rattle.answers.specs.declared.Refusal.TheVariants.{Species, Pointer, Permit}
use Rattle.answers.specs.Said.{refusal_number}
use Rattle.numbers.specs.Numbers.{is_foreign}
use Rattle.placing.specs.declared.Position.{Position}
use Rattle.rules.specs.Calls.{fills}
use Rattle.rules.specs.Access.{pointer_gate}
use Rattle.tables.specs.declared.Opening.{Opening}
use Rattle.tables.specs.Layout.{opening_at}
use Rattle.tables.specs.Fields.{value_of}
use Rattle.tables.specs.Handles.{handle_in}
use Rattle.cells.specs.Outcomes.{Lent, lent, run_out}
use Rattle.cells.specs.Runs.{Filled, filled, filled_by}
use Rattle.gate.specs.Gates.{Gate, reach_of}
use Rattle.gate_laws.specs.Standing.{Standing}
use Rattle.gate_laws.specs.Gated.{use-standing}
use Rattle.run_laws.specs.Singles.{uses_on, nexts_of}
use Rattle.run_laws.specs.Admitted.{run-refused, run-behind, no_kind, no_pointer, no-permit, works-on, reads_on}
use Rattle.call_fill_run.specs.Turned.{Admitted, Ended, Handed}

-- ---- the gate, and 19, 4 and 5: g is what the gate says

module _ (s t : List ℕ) (u e p : ℕ) (g : Gate) (eg : g ≡ reach_of (length s) t u e) where
  pub admit-refused : (why : Refusal) → g ≡ Err why → (d : Gate) → d ≡ Err why → Admitted p s t u e d
  admit-refused why at d ed =
      subst (λ (x : Gate). Admitted p s t u e x) (sym ed) (record { says = λ l. run-refused (fills p l) s t u e g eg why at })

  -- o is the opening that was loaded, f says that its species is signed, v is the pointer's value, b whether there is none
  module _ (i : ℕ) (at : g ≡ Ok i) where
    pub admit-standing : Standing (length s) t i
    admit-standing = use-standing s t u e g eg i at

    module _ (o : Opening) (eo : o ≡ opening_at t i) (f : Bool) (ef : f ≡ is_foreign false o.species) where
      gated : (l : List ℕ) → run_out (fills p l) s t u e
          ≡ admitted (lent s t) (pointer_gate false p (eqb p 0) (handle_in (opening_at t i)) (done 0)) (uses_on i (nexts_of p l) (lent s t))
      gated l = run-behind (fills p l) s t u e g eg i at

      pub admit-kind : f ≡ true → Admitted p s t u e (Err Species)
      admit-kind k = record { says = λ l. gated l ∙ no_kind t i o eo f ef p _ refl _ refl (eqb p 0) (lent s t) (uses_on i (nexts_of p l) (lent s t)) k }

      module _ (kind : f ≡ false) (v : Position) (ev : v.0 ≡ value_of o p) (b : Bool) (eb : b ≡ eqb v.0 0) where
        pub admit-pointer : b ≡ true → Admitted p s t u e (Err Pointer)
        admit-pointer z = record { says = λ l. gated l ∙ no_pointer t i o eo f ef p v.0 ev b eb (eqb p 0) (lent s t) (uses_on i (nexts_of p l) (lent s t)) kind z }

        module _ (there : b ≡ false) where
          pub admit-other : (p ≡ 0 → ⊥) → Admitted p s t u e (Ok i)
          admit-other d =
              record {
                says = (admit-standing, λ l. gated l ∙ reads_on t i o eo f ef p v.0 ev b eb (eqb p 0) (lent s t) (uses_on i (nexts_of p l) (lent s t)) kind there (ne_eqb p 0 d));
              }

          pub admit-permit : p ≡ 0 → (o.permit ≡ 1 → ⊥) → Admitted p s t u e (Err Permit)
          admit-permit first d =
              record {
                says = λ l. gated l ∙ no-permit t i o eo f ef p v.0 ev b eb (eqb p 0) (lent s t) (uses_on i (nexts_of p l) (lent s t)) kind there (eq-eqb p 0 first) d;
              }

          pub admit-first : o.permit ≡ 1 → Admitted p s t u e (Ok i)
          admit-first h =
              record { says = (admit-standing, λ l. gated l ∙ works-on t i o eo f ef p v.0 ev b eb (eqb p 0) (lent s t) (uses_on i (nexts_of p l) (lent s t)) kind there h) }

pub ruleset admits = (admit-refused, admit-kind, admit-pointer, admit-other, admit-permit, admit-first)

-- ---- the whole fill: d is what was admitted

module _ (s t : List ℕ) (u e p : ℕ) (l : List ℕ) (d : Gate) (a : Admitted p s t u e d) where
  said : (x : Gate) → d ≡ x → Admitted p s t u e x
  said x q = subst (λ (y : Gate). Admitted p s t u e y) q a

  pub run-nothing : (why : Refusal) → d ≡ Err why → Handed l (Err (0, why)) (lent s t) (filled_by p l (run_out (fills p l) s t u e))
  run-nothing why q = record { says = sym (ap (filled_by p l) ((said (Err why) q).says l)) }

  module _ (i : ℕ) (q : d ≡ Ok i) where
    pub run-standing : Standing (length s) t i
    run-standing = (said (Ok i) q).says.0

    pub run-goes : (l' : List ℕ) (r : Ended) (x : Lent) → Handed l' r x (filled_by p l (uses_on i (nexts_of p l) (lent s t)))
        → Handed l' r x (filled_by p l (run_out (fills p l) s t u e))
    run-goes l' r x h = subst (λ (z : Filled). Handed l' r x z) (sym (ap (filled_by p l) ((said (Ok i) q).says.1 l))) h

pub ruleset running = (run-nothing, run-standing, run-goes)

-- ---- what the caller has: l is the list then, x are the cells, and w is what he is to have

module _ (l : List ℕ) (r : Ended) (x : Lent) (w : Filled) (h : Handed l r x w) where
  handed : (y : Ended) → r ≡ y → Handed l y x w
  handed y q = subst (λ (z : Ended). Handed l z x w) q h

  pub hands-all : (all : Unit {0}) → r ≡ Ok all → filled (length l) 0 l x ≡ w
  hands-all all q = (handed (Ok all) q).says

  pub hands-some : (n : ℕ) (why : Refusal) → r ≡ Err (n, why) → (number : ℕ) → number ≡ refusal_number why → filled n number l x ≡ w
  hands-some n why q number en = ap (λ (m : ℕ). filled n m l x) en ∙ (handed (Err (n, why)) q).says

pub ruleset handing = (hands-all, hands-some)
