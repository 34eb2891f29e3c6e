-- The refusals of `write`, one by one, as the code's steps give their premises. Assumes nothing.
use Rattle.std.specs.Prelude.{Err}
use Prim.Native.Nat.{ℕ, ◌+◌}
use mathlib.Core.Path.{◌≡◌, refl, sym, ap, subst, ◌∙◌}
use mathlib.Core.Bool.{Bool, true, false, not, ◌&&◌, cond}
use mathlib.Core.List.{List}
use native.Mathlib.Omega.{arith}
use lib.Dec.{leb, ltb, eqb}
use borrow.Author.Tests.{eq-eqb, ne_eqb}
use Rattle.combine.specs.Verdict.{Verdict, done, refuse◌when◌else◌}
use Rattle.combine.specs.Laws.Verdict.{refused-here, went_on}
use Rattle.answers.specs.declared.Refusal.TheVariants.{Pointer, Permit, Below, Species}
use Rattle.numbers.specs.Numbers.{is_foreign}
use Rattle.placing.specs.Sizes.{most_held, greatest_end}
use Rattle.placing.specs.Placing.{held_of}
use Rattle.rules.specs.Headings.{moved}
use Rattle.rules.specs.Effects.{first_leaves, stores, plain, Use, does}
use Rattle.rules.specs.Access.{write_rule}
use Rattle.segments.specs.Free.{has_room}
use Rattle.segments.specs.Deeds.{takes_at}
use Rattle.tables.specs.declared.Opening.{Opening}
use Rattle.tables.specs.Fields.{value_of}
use Rattle.tables.specs.Handles.{handle_in}
use Rattle.tables.specs.Laws.Pointers.{value_in}
use Rattle.cells.specs.Says.{opening_in, house_of}
use Rattle.write_plan.specs.Plans.{write_verdict, seat_verdict, append_verdict, inside_verdict, Decision, Planned}
use Rattle.write_plan.proofs.Appends.{planned-same}

-- ---- the whole chain: k is the kind, w says that the number is too wide; v, b and e are the values of the pointer, of the begin and of the end

module _ (t : List ℕ) (o : Opening) (p : ℕ) (k w : Bool) where
  -- behind 19, 4, 5 and 6
  rest : ℕ → ℕ → ℕ → ℕ → Verdict Use
  rest n v b e =
      refuse 7 when not (eqb p 1) && leb e v else
      refuse 23 when w else
      refuse 10 when eqb p 1 && leb greatest_end v else
      refuse 8 when eqb p 1 && ltb most_held (held_of o.species b (v + 1)) else
      refuse 9 when not (eqb p 0) && takes_at (house_of t).records (opening_in o) v && not (has_room (house_of t)) else
      done (does (plain 0) (moved (handle_in o) p (v + 1)) (cond (eqb p 0) first_leaves (stores v n)))

  tests : ℕ → ℕ → ℕ → ℕ → Verdict Use
  tests n v b e =
      refuse 19 when is_foreign k o.species else refuse 4 when eqb v 0 else refuse 5 when not (eqb o.permit 1) else refuse 6 when ltb v b else rest n v b e

  tests-are : (n v b e : ℕ) → v ≡ value_of o p → b ≡ value_of o 0 → e ≡ value_of o 1 → write_verdict t o p k w n ≡ tests n v b e
  unfolding write_verdict write_rule tests rest
  tests-are n v b e ev eb ee = λ i. tests n ((value_in o p ∙ sym ev) i) ((value_in o 0 ∙ sym eb) i) ((value_in o 1 ∙ sym ee) i)

  module _ (t₁₉ : Bool) (e₁₉ : t₁₉ ≡ is_foreign k o.species) where
    pub write-foreign : t₁₉ ≡ true → Planned t o p (write_verdict t o p k w) (Err Species)
    unfolding tests
    write-foreign f = record { says = λ n. tests-are n _ _ _ refl refl refl ∙ refused-here 19 _ _ (sym e₁₉ ∙ f) }

    module _ (kind : t₁₉ ≡ false) (v : ℕ) (ev : v ≡ value_of o p) (t₄ : Bool) (e₄ : t₄ ≡ eqb v 0) where
      -- behind 19
      of-kind : (n b e : ℕ) → b ≡ value_of o 0 → e ≡ value_of o 1 → (x : Verdict Use)
          → (refuse 4 when eqb v 0 else refuse 5 when not (eqb o.permit 1) else refuse 6 when ltb v b else rest n v b e) ≡ x → write_verdict t o p k w n ≡ x
      unfolding tests
      of-kind n b e eb ee x h = tests-are n v b e ev eb ee ∙ went_on 19 _ _ _ (sym e₁₉ ∙ kind) h

      pub write-none : t₄ ≡ true → Planned t o p (write_verdict t o p k w) (Err Pointer)
      write-none z = record { says = λ n. of-kind n _ _ refl refl _ (refused-here 4 _ _ (sym e₄ ∙ z)) }

      module _ (d : t₄ ≡ false) where
        pub write-permit : (o.permit ≡ 1 → ⊥) → Planned t o p (write_verdict t o p k w) (Err Permit)
        write-permit q = record { says = λ n. of-kind n _ _ refl refl _ (went_on 4 _ _ _ (sym e₄ ∙ d) (refused-here 5 _ _ (ap not (ne_eqb o.permit 1 q)))) }

        module _ (works : o.permit ≡ 1) (b : ℕ) (eb : b ≡ value_of o 0) (t₆ : Bool) (e₆ : t₆ ≡ ltb v b) where
          pub write-below : t₆ ≡ true → Planned t o p (write_verdict t o p k w) (Err Below)
          write-below l =
              record { says = λ n. of-kind n b _ eb refl _ (went_on 4 _ _ _ (sym e₄ ∙ d) (went_on 5 _ _ _ (ap not (eq-eqb o.permit 1 works)) (refused-here 6 _ _ (sym e₆ ∙ l)))) }

          module _ (low : t₆ ≡ false) where
            behind : (e : ℕ) → e ≡ value_of o 1 → (n : ℕ) (x : Verdict Use) → rest n v b e ≡ x → write_verdict t o p k w n ≡ x
            behind e ee n x h = of-kind n b e eb ee x (went_on 4 _ _ _ (sym e₄ ∙ d) (went_on 5 _ _ _ (ap not (eq-eqb o.permit 1 works)) (went_on 6 _ _ _ (sym e₆ ∙ low) h)))

            -- through 1
            rest-append : p ≡ 1 → (n : ℕ) → rest n v b (value_of o 1) ≡ append_verdict t o w n
            unfolding rest append_verdict seat_verdict
            rest-append h n =
                rw (eq-eqb p 1 h, ne_eqb p 0 (λ q. omega arith))
                (went_on 7 _ _ _ refl (λ i. appending n (h i) ((ev ∙ ap (value_of o) h) i) (eb i)))
              where
                appending : ℕ → ℕ → ℕ → ℕ → Verdict Use
                appending n p' v' b' =
                    refuse 23 when w else
                    refuse 10 when leb greatest_end v' else
                    refuse 8 when ltb most_held (held_of o.species b' (v' + 1)) else
                    refuse 9 when takes_at (house_of t).records (opening_in o) v' && not (has_room (house_of t)) else
                    done (does (plain 0) (moved (handle_in o) p' (v' + 1)) (stores v' n))

            pub write-append : p ≡ 1 → (x : Decision) → Planned t o 1 (append_verdict t o w) x → Planned t o p (write_verdict t o p k w) x
            write-append h x f =
                planned-same t o p (append_verdict t o w) (write_verdict t o p k w) (λ n. behind (value_of o 1) refl n _ (rest-append h n)) x
                (subst (λ (q : ℕ). Planned t o q (append_verdict t o w) x) (sym h) f)

            -- through another
            rest-inside : (p ≡ 1 → ⊥) → (n : ℕ) → rest n v b (value_of o 1) ≡ inside_verdict t o p w n
            unfolding rest inside_verdict seat_verdict refuse◌when◌else◌
            rest-inside d n =
                rw (ne_eqb p 1 d)
                ((λ i. refuse 7 when leb (value_of o 1) (ev i) else refuse 23 when w else written (eqb p 0) (ev i))
                ∙ ap (λ (x : Verdict Use). refuse 7 when leb (value_of o 1) (value_of o p) else refuse 23 when w else x) (by_first (eqb p 0)))
              where
                written : Bool → ℕ → Verdict Use
                written b' v' =
                    refuse 9 when not b' && takes_at (house_of t).records (opening_in o) v' && not (has_room (house_of t)) else
                    done (does (plain 0) (moved (handle_in o) p (v' + 1)) (cond b' first_leaves (stores v' n)))

                by_first : (b' : Bool) → written b' (value_of o p) ≡ cond b' (done (does (plain 0) (moved (handle_in o) p (value_of o p + 1)) first_leaves)) (seat_verdict t o p n)
                by_first true = refl
                by_first false = refl

            pub write-inside : (p ≡ 1 → ⊥) → (x : Decision) → Planned t o p (inside_verdict t o p w) x → Planned t o p (write_verdict t o p k w) x
            write-inside d x f = planned-same t o p (inside_verdict t o p w) (write_verdict t o p k w) (λ n. behind (value_of o 1) refl n _ (rest-inside d n)) x f

pub ruleset decides = (write-foreign, write-none, write-permit, write-below, write-append, write-inside)
