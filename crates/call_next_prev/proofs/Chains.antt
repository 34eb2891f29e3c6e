-- The refusals of `next` and `prev`, one by one, as the code's steps give their premises. Assumes nothing.
use Rattle.std.specs.Prelude.{Ok, Err}
use Prim.Native.Nat.{ℕ, ◌+◌, ◌-◌, ◌≤◌, ◌<◌}
use mathlib.Core.Path.{◌≡◌, refl, sym, ap, ◌∙◌}
use mathlib.Core.Logic.{⊎_elim}
use mathlib.Core.Bool.{Bool, true, false, cond}
use native.Mathlib.Omega.{arith}
use lib.Dec.{leb, ltb, eqb}
use borrow.Author.Tests.{lt-leb, le-leb, le-ltb, lt-ltb, ltb-true, ltb-false, leb-true, leb-false}
use Rattle.combine.specs.Laws.Below.{split-bool}
use Rattle.combine.specs.Verdict.{Verdict, refused, done, refuse◌when◌else◌}
use Rattle.combine.specs.Laws.Verdict.{refused-here, went_on}
use Rattle.answers.specs.declared.Refusal.TheVariants.{Species, Pointer, Permit, Below, Beyond}
use Rattle.numbers.specs.Numbers.{is_foreign}
use Rattle.placing.specs.declared.Segment.{Segment}
use Rattle.placing.specs.declared.Position.{Position}
use Rattle.placing.specs.Laws.Tests.{none-not}
use Rattle.rules.specs.Headings.{moved}
use Rattle.rules.specs.Effects.{stays, first_leaves, last_leaves, element, Use, does}
use Rattle.rules.specs.Access.{next_rule, prev_rule}
use Rattle.tables.specs.declared.Opening.{Opening}
use Rattle.tables.specs.Fields.{value_of}
use Rattle.tables.specs.Handles.{handle_in}
use Rattle.tables.specs.Laws.Pointers.{value_in, value-some}
use Rattle.opening_laws.specs.Back.{OpenFile}
use Rattle.opening_steps.specs.Bounds.{from-begin, below_end}
use Rattle.call_next_prev.specs.declared.Direction.{Direction}
use Rattle.call_next_prev.specs.declared.Direction.TheVariants.{Forward, Backward}
use Rattle.call_next_prev.specs.Reads.{segment_for, lacks_permit, rule_of, edge_of, leaves_of, from_of, to_of, ReadPlan, NextPlan}

-- ---- "for a pointer call 4, 5, 6, 7", and 19 "after 2 and before 4" (document 02, P5): five tests, and then the use

five_tests : Bool → Bool → Bool → Bool → Bool → Use → Verdict Use
five_tests t₁₉ t₄ t₅ t₆ t₇ w = refuse 19 when t₁₉ else refuse 4 when t₄ else refuse 5 when t₅ else refuse 6 when t₆ else refuse 7 when t₇ else done w

module _ (t₁₉ t₄ t₅ t₆ t₇ : Bool) (w : Use) where
  stop-19 : t₁₉ ≡ true → five_tests t₁₉ t₄ t₅ t₆ t₇ w ≡ refused 19
  unfolding five_tests
  stop-19 f = refused-here 19 _ _ f

  module _ (f : t₁₉ ≡ false) where
    stop-4 : t₄ ≡ true → five_tests t₁₉ t₄ t₅ t₆ t₇ w ≡ refused 4
    unfolding five_tests
    stop-4 p = went_on 19 _ _ _ f (refused-here 4 _ _ p)

    stop-5 : t₄ ≡ false → t₅ ≡ true → five_tests t₁₉ t₄ t₅ t₆ t₇ w ≡ refused 5
    unfolding five_tests
    stop-5 p q = went_on 19 _ _ _ f (went_on 4 _ _ _ p (refused-here 5 _ _ q))

    stop-6 : t₄ ≡ false → t₅ ≡ false → t₆ ≡ true → five_tests t₁₉ t₄ t₅ t₆ t₇ w ≡ refused 6
    unfolding five_tests
    stop-6 p q r = went_on 19 _ _ _ f (went_on 4 _ _ _ p (went_on 5 _ _ _ q (refused-here 6 _ _ r)))

    stop-7 : t₄ ≡ false → t₅ ≡ false → t₆ ≡ false → t₇ ≡ true → five_tests t₁₉ t₄ t₅ t₆ t₇ w ≡ refused 7
    unfolding five_tests
    stop-7 p q r l = went_on 19 _ _ _ f (went_on 4 _ _ _ p (went_on 5 _ _ _ q (went_on 6 _ _ _ r (refused-here 7 _ _ l))))

    go_on : t₄ ≡ false → t₅ ≡ false → t₆ ≡ false → t₇ ≡ false → five_tests t₁₉ t₄ t₅ t₆ t₇ w ≡ done w
    unfolding five_tests
    go_on p q r l = went_on 19 _ _ _ f (went_on 4 _ _ _ p (went_on 5 _ _ _ q (went_on 6 _ _ _ r (went_on 7 _ _ _ l refl))))

-- ---- v, b and e are the values that the opening's cells say; x is the position that is delivered

-- "Next: v < b is 6, v >= e is 7.", "Prev: v <= b is 6, v > e is 7."
is_below : Direction → ℕ → ℕ → Bool
is_below Forward v b = ltb v b
is_below Backward v b = leb v b

is_beyond : Direction → ℕ → ℕ → Bool
is_beyond Forward v e = leb e v
is_beyond Backward v e = ltb e v

below-as : (d : Direction) (v x b : ℕ) → v ≡ from_of d x → is_below d v b ≡ ltb x b
unfolding is_below
below-as Forward v x b e = ap (λ (y : ℕ). ltb y b) e
below-as Backward v x b e = ⊎_elim
    (λ l. let z = ltb-true x b l in le-leb v b (omega arith) ∙ sym l)
    (λ n. let z = ltb-false x b n in lt-leb v b (omega arith) ∙ sym n) (split-bool (ltb x b))

beyond-as : (d : Direction) (v x e : ℕ) → v ≡ from_of d x → is_beyond d v e ≡ leb e x
unfolding is_beyond
beyond-as Forward v x e q = ap (leb e) q
beyond-as Backward v x e q = ⊎_elim
    (λ l. let z = leb-true e x l in lt-ltb e v (omega arith) ∙ sym l)
    (λ n. let z = leb-false e x n in le-ltb e v (omega arith) ∙ sym n) (split-bool (leb e x))

module _ (k : Bool) (o : Opening) (p : ℕ) where
  use_of : Direction → ℕ → Use
  use_of Forward v = does (element v) (moved (handle_in o) p (v + 1)) (cond (eqb p 0) first_leaves stays)
  use_of Backward v = does (element (v - 1)) (moved (handle_in o) p (v - 1)) (cond (eqb p 1) last_leaves stays)

  read-is : (d : Direction) (f : Bool) (v b e : ℕ) → f ≡ is_foreign k o.species → v ≡ value_of o p → b ≡ value_of o 0 → e ≡ value_of o 1
      → rule_of d k p (handle_in o) ≡ five_tests f (eqb v 0) (lacks_permit p (edge_of d) o.permit) (is_below d v b) (is_beyond d v e) (use_of d v)
  unfolding next_rule prev_rule five_tests is_below is_beyond use_of
  read-is Forward f v b e ef ev eb ee =
      λ i. let v' = (value_in o p ∙ sym ev) i in
      five_tests (sym ef i) (eqb v' 0) (lacks_permit p 0 o.permit) (ltb v' ((value_in o 0 ∙ sym eb) i)) (leb ((value_in o 1 ∙ sym ee) i) v') (use_of Forward v')
  read-is Backward f v b e ef ev eb ee =
      λ i. let v' = (value_in o p ∙ sym ev) i in
      five_tests (sym ef i) (eqb v' 0) (lacks_permit p 1 o.permit) (leb v' ((value_in o 0 ∙ sym eb) i)) (ltb ((value_in o 1 ∙ sym ee) i) v') (use_of Backward v')

  module _ (d : Direction) (f : Bool) (ef : f ≡ is_foreign k o.species) where
    pub read-foreign : f ≡ true → ReadPlan d o k p (Err Species)
    read-foreign z = record { plan = read-is d f _ _ _ ef refl refl refl ∙ stop-19 _ _ _ _ _ _ z }

    module _ (kind : f ≡ false) (v : Position) (ev : v.0 ≡ value_of o p) (t₄ : Bool) (e₄ : t₄ ≡ eqb v.0 0) where
      pub read-none : t₄ ≡ true → ReadPlan d o k p (Err Pointer)
      read-none z = record { plan = read-is d f v.0 _ _ ef ev refl refl ∙ stop-4 _ _ _ _ _ _ kind (sym e₄ ∙ z) }

      module _ (there : t₄ ≡ false) (q : ℕ) (eq : q ≡ edge_of d) (t₅ : Bool) (e₅ : t₅ ≡ lacks_permit p q o.permit) where
        permit-is : (t : Bool) → t₅ ≡ t → lacks_permit p (edge_of d) o.permit ≡ t
        permit-is t z = ap (λ (y : ℕ). lacks_permit p y o.permit) (sym eq) ∙ sym e₅ ∙ z

        pub read-permit : t₅ ≡ true → ReadPlan d o k p (Err Permit)
        read-permit z = record { plan = read-is d f v.0 _ _ ef ev refl refl ∙ stop-5 _ _ _ _ _ _ kind (sym e₄ ∙ there) (permit-is true z) }

        module _ (ok : t₅ ≡ false) (x : Position) (ex : v.0 ≡ from_of d x.0) (b : ℕ) (eb : b ≡ value_of o 0) (t₆ : Bool) (e₆ : t₆ ≡ ltb x.0 b) where
          pub read-below : t₆ ≡ true → ReadPlan d o k p (Err Below)
          read-below l =
              record { plan = read-is d f v.0 b _ ef ev eb refl ∙ stop-6 _ _ _ _ _ _ kind (sym e₄ ∙ there) (permit-is false ok) (below-as d v.0 x.0 b ex ∙ sym e₆ ∙ l) }

          module _ (low : t₆ ≡ false) (e : ℕ) (ee : e ≡ value_of o 1) (t₇ : Bool) (e₇ : t₇ ≡ leb e x.0) where
            past : (t : Bool) → t₇ ≡ t → is_beyond d v.0 e ≡ t
            past t z = beyond-as d v.0 x.0 e ex ∙ sym e₇ ∙ z

            pub read-beyond : t₇ ≡ true → ReadPlan d o k p (Err Beyond)
            read-beyond l =
                record {
                  plan = read-is d f v.0 b e ef ev eb ee
                      ∙ stop-7 _ _ _ _ _ _ kind (sym e₄ ∙ there) (permit-is false ok) (below-as d v.0 x.0 b ex ∙ sym e₆ ∙ low) (past true l);
                }

            used-as : (y : Direction) → v.0 ≡ from_of y x.0 → use_of y v.0 ≡ does (element x.0) (moved (handle_in o) p (to_of y x.0)) (cond (eqb p (edge_of y)) (leaves_of y) stays)
            unfolding use_of
            used-as Forward w = ap (use_of Forward) w
            used-as Backward w = ap (λ (n : ℕ). does (element n) (moved (handle_in o) p n) (cond (eqb p 1) last_leaves stays)) (let z : v.0 - 1 ≡ x.0 = omega arith in z)

            -- between begin and end
            pub read-there : t₇ ≡ false → OpenFile o → (g : Segment) → g ≡ segment_for o x.0 → ReadPlan d o k p (Ok (record { segment = g; position = x }))
            read-there high w g eg =
                record {
                  plan = (
                    sym ev ∙ ex,
                    record {
                      known = let m = value-some o p w.pointers8 (λ z. none-not t₄ v.0 e₄ there (ev ∙ z)) in omega arith;
                      lies = record {
                        low = from-begin o x.0 b eb t₆ e₆ low;
                        high = below_end o x.0 e ee t₇ e₇ high;
                        which = eg;
                      };
                      told = read-is d f v.0 b e ef ev eb ee
                          ∙ go_on _ _ _ _ _ (use_of d v.0) kind (sym e₄ ∙ there) (permit-is false ok) (below-as d v.0 x.0 b ex ∙ sym e₆ ∙ low) (past false high)
                          ∙ ap done (used-as d ex);
                    },
                  );
                }

pub ruleset chains = (read-foreign, read-none, read-permit, read-below, read-beyond, read-there)

-- a next of the element at v, between begin and end
pub next-there : (k : Bool) (o : Opening) (p : ℕ) (f : Bool) → f ≡ is_foreign k o.species → f ≡ false → (v : Position) → v.0 ≡ value_of o p
    → (t₄ : Bool) → t₄ ≡ eqb v.0 0 → t₄ ≡ false → (t₅ : Bool) → t₅ ≡ lacks_permit p 0 o.permit → t₅ ≡ false
    → value_of o 0 ≤ v.0 → v.0 < value_of o 1 → OpenFile o → (g : Segment) → g ≡ segment_for o v.0 → NextPlan o k p (Ok (record { segment = g; position = v }))
next-there k o p f ef kind v ev t₄ e₄ there t₅ e₅ ok low high w g eg =
    read-there k o p Forward f ef kind v ev t₄ e₄ there 0 refl t₅ e₅ ok v refl _ refl _ refl (le-ltb v.0 _ low) _ refl _ refl (lt-leb _ v.0 high) w g eg
