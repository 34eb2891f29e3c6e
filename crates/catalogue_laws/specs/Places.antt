-- The catalogue as a rule sees it, by the records in the cells t. Assumes nothing.
use Prim.Native.Nat.{ℕ, zero, suc, ◌+◌, ◌-◌, ◌<◌}
use Rattle.std.specs.Prelude.{◌≡◌, Bool, not, ◌&&◌, List, map, eqb, ltb, length, get_or}
use Rattle.std.proofs.Math.Path.{refl, ap}
use Rattle.std.proofs.Common.{sym, subst, ◌∙◌, add-one}
use Rattle.std.proofs.Math.Bool.{true, false, cond}
use Rattle.std.proofs.Math.Option.{Option, none, some}
use native.Mathlib.Omega.{arith}
use Rattle.std.proofs.Math.Dec.{eqb-suc-zero, eqb-suc-suc}
use Rattle.combine.specs.Laws.Below.{left-of, right_of}
use Rattle.combine.specs.First.{first_below}
use Rattle.combine.specs.Lists.{any, first_where, tab}
use Rattle.combine.specs.Laws.Lists.{length-tab, tab-at, tab-cong}
use Rattle.placing.specs.Sizes.{places}
use Rattle.rules.specs.Headings.{Heading, head_of, passes, is_some}
use Rattle.rules.specs.Rules.{is_own, is_public, look_up, without, place_for}
use Rattle.tables.specs.declared.Record.{Record}
use Rattle.tables.specs.Layout.{record_at}
use Rattle.tables.specs.Fields.{is_used}
use Rattle.tables.specs.Handles.{heading_of, place_of}
use Rattle.cells.specs.Says.{record_in, decoded_record, house_of}
use Rattle.combine.specs.Laws.Searches.{first_cong, first_found, first-tab, any-first, map-tab, set-tab}

-- the headings of the catalogue's places
unfoldable pub headings : List ℕ → List (Option Heading)
headings t = map head_of (house_of t).records

-- a record in use that passes a test
unfoldable pub used_with : (Heading → Bool) → Record → Bool
used_with f r = is_used r && f (heading_of r)

-- such a record at place q that is not the one named by n: "the record's place and 1, or 0 for none"
unfoldable pub another : (Heading → Bool) → List ℕ → ℕ → ℕ → Bool
another f t n q = not (eqb (q + 1) n) && used_with f (record_at t q)

-- ---- a record

heading : Record → Option Heading
heading r = head_of (decoded_record r)

heading-used : (r : Record) → heading r ≡ cond (is_used r) (some (heading_of r)) none
unfolding heading decoded_record
heading-used r = go (is_used r)
  where
    go : (b : Bool) → head_of (cond b (some (record_in r)) none) ≡ cond b (some (heading_of r)) none
    go true = refl
    go false = refl

passes-used : (f : Heading → Bool) (r : Record) → passes f (heading r) ≡ used_with f r
unfolding used_with
passes-used f r = ap (passes f) (heading-used r) ∙ go (is_used r)
  where
    go : (b : Bool) → passes f (cond b (some (heading_of r)) none) ≡ (b && f (heading_of r))
    go true = refl
    go false = refl

-- ---- the places

module _ (t : List ℕ) where
  headings-tab : headings t ≡ tab places (λ q. heading (record_at t q))
  unfolding headings heading house_of
  headings-tab = map-tab head_of places (λ q. decoded_record (record_at t q))

  pub headings-long : length (headings t) ≡ places
  headings-long = ap length headings-tab ∙ length-tab places (λ q. heading (record_at t q))

  pub heading-at : (p : ℕ) → p < places → is_used (record_at t p) ≡ true → get_or (headings t) p none ≡ some (heading_of (record_at t p))
  heading-at p l u =
      ap (λ (rs : List (Option Heading)). get_or rs p none) headings-tab
      ∙ tab-at places (λ q. heading (record_at t q)) p none l
      ∙ heading-used (record_at t p)
      ∙ ap (λ (b : Bool). cond b (some (heading_of (record_at t p))) none) u

  -- "a new file in the lowest free place"
  pub first-unused : place_for (headings t) none ≡ first_below places (λ q. not (is_used (record_at t q)))
  first-unused =
      ap (λ (rs : List (Option Heading)). place_for rs none) headings-tab
      ∙ first-tab (λ r. not (is_some r)) places (λ q. heading (record_at t q))
      ∙ first_cong _ _ places (λ q l. ap (λ r. not (is_some r)) (heading-used (record_at t q)) ∙ go (is_used (record_at t q)) q)
    where
      go : (b : Bool) (q : ℕ) → not (is_some (cond b (some (heading_of (record_at t q))) none)) ≡ not b
      go true q = refl
      go false q = refl

  -- ---- the other places

  others : ℕ → ℕ → Option Heading
  others n q = cond (eqb (q + 1) n) none (heading (record_at t q))

  without-tab : (n : ℕ) → without (headings t) (place_of n) ≡ tab places (others n)
  unfolding others
  without-tab zero =
      headings-tab ∙ tab-cong places (others 0) (λ q. heading (record_at t q)) (λ q l. rw (add-one q, eqb-suc-zero q))
  without-tab (suc p) =
      let d : suc p - 1 ≡ p = omega arith in
      rw (eqb-suc-zero p, d, headings-tab)
      (set-tab places (λ q. heading (record_at t q)) p none
      ∙ tab-cong places (others (suc p)) (λ q. cond (eqb q p) none (heading (record_at t q))) (λ q l. rw (add-one q, eqb-suc-suc q p)))

  module _ (f : Heading → Bool) (n : ℕ) where
    pub first-another : first_where (passes f) (without (headings t) (place_of n)) ≡ first_below places (another f t n)
    unfolding others another
    first-another =
        ap (first_where (passes f)) (without-tab n)
        ∙ first-tab (passes f) places (others n)
        ∙ first_cong _ _ places (λ q l. go (eqb (q + 1) n) q)
      where
        go : (b : Bool) (q : ℕ) → passes f (cond b none (heading (record_at t q))) ≡ (not b && used_with f (record_at t q))
        go true q = refl
        go false q = passes-used f (record_at t q)

    pub any-another : any (passes f) (without (headings t) (place_of n)) ≡ ltb (first_below places (another f t n)) places
    any-another =
        any-first (passes f) (without (headings t) (place_of n))
        ∙ (λ i. ltb (first-another i) ((ap length (without-tab n) ∙ length-tab places (others n)) i))

  -- "Look-up takes the user's own record of that name first, then a public one"
  pub look-up : (u : ℕ) (n : List ℕ) → let own = first_below places (another (is_own u n) t 0) in look_up u n (headings t) ≡ cond (ltb own places) own (first_below places (another (is_public n) t 0))
  unfolding look_up
  look-up u n =
      λ i. let own = first-another (is_own u n) 0 i in cond (ltb own (headings-long i)) own (first-another (is_public n) 0 i)

  another-used : (f : Heading → Bool) (n q : ℕ) → another f t n q ≡ true → is_used (record_at t q) ≡ true
  unfolding another used_with
  another-used f n q e = let r = record_at t q in left-of (is_used r) (f (heading_of r)) (right_of (not (eqb (q + 1) n)) (used_with f r) e)

  found-used : (f : Heading → Bool) (n : ℕ) → first_below places (another f t n) < places → is_used (record_at t (first_below places (another f t n))) ≡ true
  found-used f n l = another-used f n _ (first_found places (another f t n) l)

  pub looked-up-used : (u : ℕ) (n : List ℕ) → look_up u n (headings t) < places → is_used (record_at t (look_up u n (headings t))) ≡ true
  looked-up-used u n =
      subst (λ (p : ℕ). p < places → is_used (record_at t p) ≡ true) (sym (look-up u n))
      (go (ltb own places) refl)
    where
      own : ℕ
      own = first_below places (another (is_own u n) t 0)

      public : ℕ
      public = first_below places (another (is_public n) t 0)

      go : (b : Bool) → ltb own places ≡ b → cond b own public < places → is_used (record_at t (cond b own public)) ≡ true
      go true e l = found-used (is_own u n) 0 l
      go false e l = found-used (is_public n) 0 l
