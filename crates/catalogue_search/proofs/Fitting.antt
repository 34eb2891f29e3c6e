-- A record's row and an opening's row, by the cases that the code goes through. Assumes nothing.
use Prim.Native.Nat.{ℕ, ◌+◌, ◌-◌, ◌*◌}
use mathlib.Core.Path.{◌≡◌, sym, ap, ◌∙◌}
use mathlib.Core.Logic.{◌≢◌}
use mathlib.Core.Bool.{Bool, true, false, not, ◌&&◌, ◌||◌, and-true, and-false}
use mathlib.Core.List.{List}
use native.Mathlib.Omega.{arith}
use lib.Dec.{eqb}
use lib.ListN.{get_or, take, drop}
use borrow.Author.Tests.{eq-eqb, ne_eqb}
use Rattle.combine.specs.Laws.Below.{bad-left}
use Rattle.combine.specs.Lists.{part, same}
use Rattle.combine.specs.Laws.Parts.{get_d_part}
use Rattle.placing.specs.Sizes.{opening_length}
use Rattle.rules.specs.Headings.{Heading}
use Rattle.tables.specs.Layout.{record_of, record_at, opening_of, opening_at, opening_base}
use Rattle.tables.specs.Fields.{is_used}
use Rattle.tables.specs.Handles.{heading_of}
use Rattle.catalogue_laws.specs.Places.{used_with, another}
use Rattle.catalogue_laws.specs.Entries.{keeps_off}
use Rattle.catalogue_search.specs.declared.Wanted.{Wanted}
use Rattle.catalogue_search.specs.declared.Wanted.TheVariants.{Own, Public}
use Rattle.catalogue_search.specs.Sought.{concerned, sought, sought-named}

-- a part of the tables as the code takes it
abbrev lent_part : List ℕ → ℕ → ℕ → List ℕ
lent_part t from to = take (to - from) (drop from t)

lent-part : (t : List ℕ) (from n : ℕ) → lent_part t from (from + n) ≡ part t from n
unfolding part
lent-part t from n =
    let e : from + n - from ≡ n = omega arith in
    ap (λ (k : ℕ). take k (drop from t)) e

-- ---- whose file it is

module _ (w : Wanted) (owner : ℕ) (private : Bool) where
  by-wanted : (v : Wanted) → w ≡ v → concerned v owner private ≡ concerned w owner private
  by-wanted v e = ap (λ (x : Wanted). concerned x owner private) (sym e)

  pub own-wanted : (u : ℕ) → w ≡ Own u → eqb owner u ≡ concerned w owner private
  unfolding concerned
  own-wanted u e = by-wanted (Own u) e

  pub public-wanted : w ≡ Public → not private ≡ concerned w owner private
  unfolding concerned
  public-wanted e = by-wanted Public e

-- ---- a record's row

pub not-used : (f : Heading → Bool) (row : List ℕ) → get_or row 0 0 ≢ 1 → false ≡ used_with f (record_of row)
unfolding used_with record_of
not-used f row d = sym (bad-left _ _ (ne_eqb (get_or row 0 0) 1 d))

module _ (w : Wanted) (n row : List ℕ) (used : get_or row 0 0 ≡ 1) where
  by_name : used_with (sought w n) (record_of row) ≡ (concerned w (get_or row 13 0) (eqb (get_or row 14 0) 1) && same (part row 1 12) n)
  unfolding used_with record_of
  by_name = ap (λ (b : Bool). b && sought w n (heading_of (record_of row))) (eq-eqb (get_or row 0 0) 1 used) ∙ sought-named w n (heading_of (record_of row))

  pub not-concerned : concerned w (get_or row 13 0) (eqb (get_or row 14 0) 1) ≡ false → false ≡ used_with (sought w n) (record_of row)
  not-concerned e = sym (by_name ∙ bad-left _ _ e)

  pub as-named : concerned w (get_or row 13 0) (eqb (get_or row 14 0) 1) ≡ true → same (take 12 (drop 1 row)) n ≡ used_with (sought w n) (record_of row)
  unfolding part
  as-named e = sym (by_name ∙ ap (λ (b : Bool). b && same (part row 1 12) n) e)

-- ---- the record at a place

module _ (f : Heading → Bool) (t : List ℕ) (n q : ℕ) where
  pub named-itself : q + 1 ≡ n → false ≡ another f t n q
  unfolding another
  named-itself e = sym (rw (eq-eqb (q + 1) n e))

  pub in-its-row : q + 1 ≢ n → used_with f (record_of (lent_part t (1 + 50 * q) (1 + 50 * q + 50))) ≡ another f t n q
  unfolding another record_at
  in-its-row d = ap (λ (row : List ℕ). used_with f (record_of row)) (lent-part t (1 + 50 * q) 50) ∙ sym (rw (ne_eqb (q + 1) n d))

-- ---- an opening's row

module _ (w : Bool) (p : ℕ) (row : List ℕ) where
  pub not-open : get_or row 0 0 ≢ 1 → false ≡ keeps_off w p (opening_of row)
  unfolding keeps_off opening_of
  not-open d = sym (bad-left _ _ (ne_eqb (get_or row 0 0) 1 d))

  module _ (there : get_or row 0 0 ≡ 1) where
    pub elsewhere : p + 1 ≢ get_or row 1 0 → false ≡ keeps_off w p (opening_of row)
    unfolding keeps_off opening_of
    elsewhere d = sym (rw (eq-eqb (get_or row 0 0) 1 there, ne_eqb (p + 1) (get_or row 1 0) d) (and-false (w || eqb (get_or row 2 0) 1)))

    module _ (here : p + 1 ≡ get_or row 1 0) where
      by-permit : keeps_off w p (opening_of row) ≡ (w || eqb (get_or row 2 0) 1)
      unfolding keeps_off opening_of
      by-permit = rw (eq-eqb (get_or row 0 0) 1 there, eq-eqb (p + 1) (get_or row 1 0) here) (and-true (w || eqb (get_or row 2 0) 1))

      pub from-work : w ≡ true → true ≡ keeps_off w p (opening_of row)
      from-work e = sym (by-permit ∙ ap (λ (b : Bool). b || eqb (get_or row 2 0) 1) e)

      pub from-reading : w ≡ false → eqb (get_or row 2 0) 1 ≡ keeps_off w p (opening_of row)
      from-reading e = sym (by-permit ∙ ap (λ (b : Bool). b || eqb (get_or row 2 0) 1) e)

pub at_entry : (w : Bool) (p : ℕ) (t : List ℕ) (i : ℕ) → keeps_off w p (opening_of (lent_part t (opening_base i) (opening_base i + opening_length))) ≡ keeps_off w p (opening_at t i)
unfolding opening_at
at_entry w p t i = ap (λ (row : List ℕ). keeps_off w p (opening_of row)) (lent-part t (opening_base i) opening_length)

-- ---- the first cell of a record

module _ (t : List ℕ) (q : ℕ) where
  used-cell : (record_at t q).used ≡ get_or t (1 + 50 * q) 0
  unfolding record_at record_of
  used-cell = get_d_part t (1 + 50 * q) 50 0 (omega arith) ∙ ap (λ (k : ℕ). get_or t k 0) (let z : 1 + 50 * q + 0 ≡ 1 + 50 * q = omega arith in z)

  pub is-unused : get_or t (1 + 50 * q) 0 ≢ 1 → not (is_used (record_at t q)) ≡ true
  is-unused d = ap not (ne_eqb (record_at t q).used 1 (λ e. d (sym used-cell ∙ e)))

  pub is-used : get_or t (1 + 50 * q) 0 ≡ 1 → not (is_used (record_at t q)) ≡ false
  is-used e = ap not (eq-eqb (record_at t q).used 1 (used-cell ∙ e))
