-- What list i of the tables t is in terms of its record or opening, and in terms of cells. Assumes nothing.
use Rattle.std.specs.Prelude.{ℕ, ◌+◌, ◌-◌, ◌<◌, ◌≡◌, ◌≢◌, true, false, List, ltb, eqb, get_or}
use Rattle.std.proofs.Common.{sym, ap, ◌∙◌, arith}
use Rattle.std.proofs.Math.Bool.{cond}
use borrow.Author.Tests.{lt-ltb, le-ltb, eq-eqb, ne_eqb}
use Rattle.placing.specs.Sizes.{places, most_held}
use Rattle.placing.specs.Placing.{held_of, stretch_of}
use Rattle.tables.specs.Layout.{record_base, opening_base, record_at, opening_at}
use Rattle.tables.specs.Fields.{held_by_record, held_by_opening, value_of, number_at}
use Rattle.tables.specs.Lists.{held_in, listed, stretch_in, family_of}
use Rattle.sound_lists.specs.FieldCells as cells

-- list i is that of record place i for i below 64
module _ (t : List ℕ) (p : ℕ) (lp : p < places) where
  is-record : ltb p 64 ≡ true
  is-record = lt-ltb p 64 lp

  pub record-held : held_in t p ≡ held_by_record (record_at t p)
  unfolding held_in
  record-held = rw is-record

  pub record-number : (k : ℕ) → listed t p k ≡ number_at (record_at t p).segments k
  unfolding listed
  record-number k = rw is-record

  pub record-stretch : (k : ℕ) → stretch_in t p k ≡ stretch_of (record_at t p).species (record_at t p).begin.0 + k
  unfolding stretch_in
  record-stretch k = rw is-record

  pub record-family : family_of t p ≡ p
  unfolding family_of
  record-family = rw is-record

  -- in cells
  pub record-number-cell : (k : ℕ) → k < most_held → listed t p k ≡ get_or t (record_base p + 18 + k) 0
  record-number-cell k h = record-number k ∙ cells.number-cell t p k h

  pub record-stretch-cell : (k : ℕ) → stretch_in t p k ≡ stretch_of (get_or t (record_base p + 15) 0) (get_or t (record_base p + 16) 0) + k
  record-stretch-cell k = record-stretch k ∙ (λ i. stretch_of (cells.species-cell t p i) (cells.begin-cell t p i) + k)

  pub record-held-unused : get_or t (record_base p) 0 ≡ 0 → held_in t p ≡ 0
  unfolding held_by_record
  record-held-unused z = record-held ∙ rw (eq-eqb (record_at t p).used 0 (cells.used-cell t p ∙ z))

  pub record-held-used : get_or t (record_base p) 0 ≢ 0 → held_in t p ≡ held_of (get_or t (record_base p + 15) 0) (get_or t (record_base p + 16) 0) (get_or t (record_base p + 17) 0)
  unfolding held_by_record
  record-held-used d =
      record-held ∙ rw (ne_eqb (record_at t p).used 0 (λ z. d (sym (cells.used-cell t p) ∙ z))) (λ i. held_of (cells.species-cell t p i) (cells.begin-cell t p i) (cells.end-cell t p i))

-- and that of entry i - 64 for i from 64 to 95
module _ (t : List ℕ) (j : ℕ) where
  is-opening : ltb (64 + j) 64 ≡ false
  is-opening = le-ltb (64 + j) 64 (omega arith)

  same-entry : 64 + j - 64 ≡ j
  same-entry = omega arith

  pub opening-held : held_in t (64 + j) ≡ held_by_opening (opening_at t j)
  unfolding held_in
  opening-held = rw (is-opening, same-entry)

  pub opening-number : (k : ℕ) → listed t (64 + j) k ≡ number_at (opening_at t j).segments k
  unfolding listed
  opening-number k = rw (is-opening, same-entry)

  pub opening-stretch : (k : ℕ) → stretch_in t (64 + j) k ≡ stretch_of (opening_at t j).species (value_of (opening_at t j) 0) + k
  unfolding stretch_in
  opening-stretch k = rw (is-opening, same-entry)

  pub opening-family-none : (opening_at t j).place ≡ 0 → family_of t (64 + j) ≡ 64 + j
  unfolding family_of
  opening-family-none z = rw (is-opening, same-entry, eq-eqb (opening_at t j).place 0 z)

  pub opening-family-some : (opening_at t j).place ≢ 0 → family_of t (64 + j) ≡ (opening_at t j).place - 1
  unfolding family_of
  opening-family-some d = rw (is-opening, same-entry, ne_eqb (opening_at t j).place 0 d)

  -- in cells
  pub opening-number-cell : (k : ℕ) → k < most_held → listed t (64 + j) k ≡ get_or t (opening_base j + 24 + k) 0
  opening-number-cell k h = opening-number k ∙ cells.opening-number-cell t j k h

  pub opening-stretch-cell : (k : ℕ) → stretch_in t (64 + j) k ≡ stretch_of (get_or t (opening_base j + 3) 0) (get_or t (opening_base j + 4) 0) + k
  opening-stretch-cell k = opening-stretch k ∙ (λ i. stretch_of (cells.opening-species-cell t j i) (cells.opening-begin-cell t j i) + k)

  pub opening-held-closed : get_or t (opening_base j) 0 ≡ 0 → held_in t (64 + j) ≡ 0
  unfolding held_by_opening
  opening-held-closed z = opening-held ∙ rw (eq-eqb (opening_at t j).opened 0 (cells.opened-cell t j ∙ z))

  pub opening-held-open : get_or t (opening_base j) 0 ≢ 0 → held_in t (64 + j) ≡ held_of (get_or t (opening_base j + 3) 0) (get_or t (opening_base j + 4) 0) (get_or t (opening_base j + 5) 0)
  unfolding held_by_opening
  opening-held-open d =
      opening-held
      ∙ rw (ne_eqb (opening_at t j).opened 0 (λ z. d (sym (cells.opened-cell t j) ∙ z)))
      (λ i. held_of (cells.opening-species-cell t j i) (cells.opening-begin-cell t j i) (cells.opening-end-cell t j i))

  -- the list's own number, or its record's place
  pub opening-family-cell : family_of t (64 + j) ≡ cond (eqb (get_or t (opening_base j + 1) 0) 0) (64 + j) (get_or t (opening_base j + 1) 0 - 1)
  unfolding family_of
  opening-family-cell = rw (is-opening, same-entry) (ap (λ (n : ℕ). cond (eqb n 0) (64 + j) (n - 1)) (cells.place-cell t j))
