-- The chain of refusals of a close, by the cases that the code goes through. Assumes nothing.
use Rattle.std.specs.Prelude.{Ok, Err}
use Prim.Native.Nat.{ℕ, ◌-◌, ◌≤◌, ◌<◌}
use mathlib.Core.Path.{◌≡◌, refl, sym, ap, ◌∙◌}
use mathlib.Core.Logic.{◌≢◌}
use mathlib.Core.Bool.{Bool, true, false, not, ◌&&◌, ◌||◌, cond, and-true, and-false}
use mathlib.Core.Option.{Option, none, some}
use mathlib.Core.List.{List}
use native.Mathlib.Omega.{arith}
use lib.Dec.{eqb, leb, ltb}
use borrow.Author.Tests.{le-leb, lt-leb, lt-ltb, le-ltb, eq-eqb, ne_eqb, not-true, not-false}
use Rattle.combine.specs.Laws.Below.{bad-left, bad-right, or_left, or_right}
use Rattle.combine.specs.First.{first_below}
use Rattle.combine.specs.Lists.{any}
use Rattle.combine.specs.Verdict.{Verdict, done, refuse◌when◌else◌}
use Rattle.combine.specs.Laws.Verdict.{refused-here, went_on}
use Rattle.answers.specs.declared.Refusal.TheVariants.{Public, Taken, Place}
use Rattle.placing.specs.Sizes.{places}
use Rattle.names.specs.Names.{is_scratch}
use Rattle.rules.specs.Headings.{Heading, passes}
use Rattle.rules.specs.Effects.{Effect, ended, filed}
use Rattle.rules.specs.Rules.{is_own, is_public, headed, without, place_for, vanish, close_rule}
use Rattle.tables.specs.declared.Opening.{Opening}
use Rattle.tables.specs.Layout.{record_at}
use Rattle.tables.specs.Fields.{is_used}
use Rattle.tables.specs.Handles.{handle_in, place_of}
use Rattle.catalogue_laws.specs.Places.{headings, another, headings-long, any-another, first-unused}
use Rattle.catalogue_search.specs.declared.Wanted.TheVariants as W
use Rattle.catalogue_search.specs.Sought.{sought}
use Rattle.close_choice.specs.declared.Plan.TheVariants.{Ends, Unfiles, Files}
use Rattle.close_choice.specs.Planned.{planned, takenb, ending_of, filing_of}

-- the place that a number names
place-of : (k p : ℕ) → (1 ≤ k) × (p ≡ k - 1) → place_of k ≡ some p
place-of k p e = rw (ne_eqb k 0 (λ z. omega arith), e.1)

-- ---- no record is written

module _ (permit k : ℕ) (public : Bool) (u : ℕ) (o : Opening) where
  pub not-public : public ≡ true → planned u o (Err Public) ≡ ending_of permit k public
  unfolding planned ending_of
  not-public e = sym (refused-here 18 _ _ e)

  module _ (private : public ≡ false) where
    ends_as : ending_of permit k public ≡ done (cond (eqb permit 1) (vanish (place_of k)) ended)
    unfolding ending_of
    ends_as = went_on 18 _ _ _ private refl

    pub read-ends : permit ≢ 1 → planned u o (Ok Ends) ≡ ending_of permit k public
    unfolding planned
    read-ends d = sym (ends_as ∙ ap (λ (b : Bool). done (cond b (vanish (place_of k)) ended)) (ne_eqb permit 1 d))

    module _ (work : permit ≡ 1) where
      vanishes : ending_of permit k public ≡ done (vanish (place_of k))
      vanishes = ends_as ∙ ap (λ (b : Bool). done (cond b (vanish (place_of k)) ended)) (eq-eqb permit 1 work)

      pub scratch-ends : k ≡ 0 → planned u o (Ok Ends) ≡ ending_of permit k public
      unfolding planned
      scratch-ends e = sym (vanishes ∙ ap (λ (b : Bool). done (vanish (cond b none (some (k - 1))))) (eq-eqb k 0 e))

      pub record_freed : (p : ℕ) → (1 ≤ k) × (p ≡ k - 1) → planned u o (Ok (Unfiles p)) ≡ ending_of permit k public
      unfolding planned
      record_freed p e = sym (vanishes ∙ ap (λ (x : Option ℕ). done (vanish x)) (place-of k p e))

-- ---- the name is taken

module _ (t : List ℕ) (u : ℕ) (n : List ℕ) (k : ℕ) (public : Bool) where
  others : List (Option Heading)
  others = without (headings t) (place_of k)

  module _ (p : ℕ) (ep : p ≡ first_below places (another (sought (W.Own u) n) t k)) where
    own-there : any (passes (is_own u n)) (without (headings t) (place_of k)) ≡ ltb p places
    unfolding sought
    own-there = any-another t (is_own u n) k ∙ ap (λ (x : ℕ). ltb x places) (sym ep)

    pub own-taken : p < places → true ≡ takenb (without (headings t) (place_of k)) u n public
    unfolding takenb
    own-taken l = sym (or_left _ _ (own-there ∙ lt-ltb p places l))

    module _ (free : places ≤ p) where
      public-only : takenb (without (headings t) (place_of k)) u n public ≡ (public && any (passes (is_public n)) (without (headings t) (place_of k)))
      unfolding takenb
      public-only = ap (λ (b : Bool). b || public && any (passes (is_public n)) (without (headings t) (place_of k))) (own-there ∙ le-ltb p places free)

      pub private-free : not public ≡ true → false ≡ takenb (without (headings t) (place_of k)) u n public
      private-free e = sym (public-only ∙ bad-left _ _ (not-true public e))

      pub public-taken : not public ≡ false → (q : ℕ) → q ≡ first_below places (another (sought W.Public n) t k) → ltb q places ≡ takenb (without (headings t) (place_of k)) u n public
      unfolding sought
      public-taken e q eq =
          sym
          (public-only
          ∙ ap (λ (b : Bool). b && any (passes (is_public n)) (without (headings t) (place_of k))) (not-false public e)
          ∙ any-another t (is_public n) k ∙ ap (λ (x : ℕ). ltb x places) (sym eq))

-- ---- the place

pub new-place : (t : List ℕ) (k p : ℕ) → k ≡ 0 → p ≡ first_below places (λ q. not (is_used (record_at t q))) → p ≡ place_for (headings t) (place_of k)
new-place t k p e ep = ep ∙ sym (first-unused t) ∙ ap (λ (b : Bool). place_for (headings t) (cond b none (some (k - 1)))) (sym (eq-eqb k 0 e))

pub old-place : (t : List ℕ) (k p : ℕ) → (1 ≤ k) × (p ≡ k - 1) → p ≡ place_for (headings t) (place_of k)
old-place t k p e = ap (place_for (headings t)) (sym (place-of k p e))

-- ---- a record is written

module _ (t : List ℕ) (u : ℕ) (n : List ℕ) (k : ℕ) (public : Bool) (o : Opening) (r : Bool) (er : r ≡ takenb (without (headings t) (place_of k)) u n public) where
  pub name-taken : r ≡ true → planned u o (Err Taken) ≡ filing_of t u n k public (handle_in o)
  unfolding planned filing_of
  name-taken e = sym (refused-here 16 _ _ (sym er ∙ e))

  module _ (free : r ≡ false) (p : ℕ) (ep : p ≡ place_for (headings t) (place_of k)) where
    goes-on : filing_of t u n k public (handle_in o) ≡ refuse◌when◌else◌ 17 (leb places p) (done (filed p (headed public u (handle_in o))))
    unfolding filing_of
    goes-on = went_on 16 _ _ _ (sym er ∙ free) (ap (λ (x : ℕ). refuse◌when◌else◌ 17 (leb places x) (done (filed x (headed public u (handle_in o))))) (sym ep))

    pub no_place : places ≤ p → planned u o (Err Place) ≡ filing_of t u n k public (handle_in o)
    unfolding planned
    no_place l = sym (goes-on ∙ refused-here 17 _ _ (le-leb places p l))

    pub becomes-record : p < places → planned u o (Ok (Files p public)) ≡ filing_of t u n k public (handle_in o)
    unfolding planned
    becomes-record l = sym (goes-on ∙ went_on 17 _ _ _ (lt-leb places p l) refl)

-- ---- all of it

module _ (t : List ℕ) (u : ℕ) (o : Opening) (public : Bool) where
  closes_as : (scratch permit : Bool) → Verdict Effect
  closes_as scratch permit =
      let files = permit && not scratch in
      let p = place_for (headings t) (place_of o.place) in
      refuse◌when◌else◌ 18 (public && (not permit || scratch))
      (refuse◌when◌else◌ 16 (files && takenb (without (headings t) (place_of o.place)) u o.name public)
      (refuse◌when◌else◌ 17 (files && leb places p)
      (done (cond files (filed p (headed public u (handle_in o))) (cond permit (vanish (place_of o.place)) ended)))))

  close-as : close_rule public u (headings t) (handle_in o) ≡ closes_as (is_scratch o.name) (eqb o.permit 1)
  unfolding close_rule takenb closes_as
  close-as =
      ap (λ (m : ℕ). let scratch = is_scratch o.name in let permit = eqb o.permit 1 in let files = permit && not scratch in let p = place_for (headings t) (place_of o.place) in
      refuse◌when◌else◌ 18 (public && (not permit || scratch))
      (refuse◌when◌else◌ 16 (files && takenb (without (headings t) (place_of o.place)) u o.name public)
      (refuse◌when◌else◌ 17 (files && leb m p)
      (done (cond files (filed p (headed public u (handle_in o))) (cond permit (vanish (place_of o.place)) ended))))))
      (headings-long t)

  ends : (permit scratch : Bool) → (permit && not scratch) ≡ false → (not permit || scratch) ≡ true → closes_as scratch permit ≡ refuse◌when◌else◌ 18 public (done (cond permit (vanish (place_of o.place)) ended))
  unfolding closes_as refuse◌when◌else◌
  ends permit scratch e f = rw (e, f, and-true public)

  ending-out : (b : Bool) → eqb o.permit 1 ≡ b → (b && not (is_scratch o.name)) ≡ false → (not b || is_scratch o.name) ≡ true → ending_of o.permit o.place public ≡ close_rule public u (headings t) (handle_in o)
  unfolding ending_of
  ending-out b p e f =
      ap (λ (x : Bool). refuse◌when◌else◌ 18 public (done (cond x (vanish (place_of o.place)) ended))) p
      ∙ sym (close-as ∙ ap (closes_as (is_scratch o.name)) p ∙ ends b (is_scratch o.name) e f)

  pub scratch-closed : is_scratch o.name ≡ true → ending_of o.permit o.place public ≡ close_rule public u (headings t) (handle_in o)
  scratch-closed e =
      let b = eqb o.permit 1 in
      ending-out b refl (bad-right b _ (ap not e)) (or_right (not b) _ e)

  module _ (named : is_scratch o.name ≡ false) where
    pub read-closed : o.permit ≢ 1 → ending_of o.permit o.place public ≡ close_rule public u (headings t) (handle_in o)
    read-closed d = ending-out false (ne_eqb o.permit 1 d) refl refl

    pub work_closed : o.permit ≡ 1 → filing_of t u o.name o.place public (handle_in o) ≡ close_rule public u (headings t) (handle_in o)
    unfolding filing_of closes_as refuse◌when◌else◌
    work_closed e =
        sym
        (close-as
        ∙ (λ i. closes_as (named i) (eq-eqb o.permit 1 e i))
        ∙ ap (λ (b : Bool). refuse◌when◌else◌ 18 b (filing_of t u o.name o.place public (handle_in o))) (and-false public))
