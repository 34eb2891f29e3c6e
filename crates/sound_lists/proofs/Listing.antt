-- What the marks of one list make of the pass: a record's, a read opening's, a new file's, and that of a work opening of an old file.
-- Assumes nothing.
use Prim.Native.Nat.{ℕ, ◌+◌, ◌-◌, ◌<◌}
use mathlib.Core.Path.{◌≡◌, sym, ap, ◌∙◌}
use mathlib.Core.Logic.{◌≢◌}
use mathlib.Core.Bool.{true, not}
use mathlib.Core.List.{List}
use native.Mathlib.Omega.{arith}
use lib.ListN.{get_or}
use borrow.Author.Tests.{eqb-true}
use Rattle.placing.specs.Sizes.{most_held, places, entries, lists}
use Rattle.tables.specs.Layout.{record_base, opening_base, record_at, opening_at}
use Rattle.tables.specs.Lists.{listed, stretch_in, family_of}
use Rattle.tables.specs.Laws.Sound.{Ranged}
use Rattle.tables.specs.Laws.OpeningFacts.{closed-permit}
use Rattle.sound_lists.specs.FieldCells as cells
use Rattle.sound_lists.specs.ListCells as list
use Rattle.sound_lists.specs.ListFacts.{opening-at}
use Rattle.sound_lists.specs.Marks.{Marked}
use Rattle.sound_lists.specs.Rows.{cell_from, RowOf}
use Rattle.sound_lists.specs.Shared.{has_at, changed, sharedb}
use Rattle.sound_lists.specs.Passed.{Passes}
use Rattle.sound_lists.proofs.Sharing.{has_same, own-self, shared-with}
use Rattle.sound_lists.proofs.Families.{read-shared, its-family, its-record}
use Rattle.sound_lists.proofs.Passing.{list-marked, none-own}

module _ (t : List ℕ) (ok : Ranged t) where
  -- the whole row of list i, which has no record but itself
  whole-passes : (i start n first : ℕ) (m m' : List ℕ) (c : ℕ) → i < lists → family_of t i ≡ i → RowOf t i start n first
      → Marked (λ k. true) (cell_from t start) m n m' c → Passes t i (i + 1) m m' c most_held
  whole-passes i start n first m m' c li e r h =
      list-marked t ok i li (λ k. true) (cell_from t start) m n r.held r.number (λ k l. sym (ap not (own-self t i k e))) m' c h

  -- of list i, whose record is list p, what was changed
  changed-passes : (i p start n first start' n' first' : ℕ) (m m' : List ℕ) (c : ℕ) → i < lists → family_of t i ≡ p → p ≢ i → RowOf t i start n first → RowOf t p start' n' first'
      → Marked (changed (cell_from t start) first (cell_from t start') n' first') (cell_from t start) m n m' c → Passes t i (i + 1) m m' c most_held
  changed-passes i p start n first start' n' first' m m' c li e d r r' h =
      list-marked t ok i li (changed (cell_from t start) first (cell_from t start') n' first') (cell_from t start) m n r.held r.number (λ k l. ap not (same k l)) m' c h
    where
      same : (k : ℕ) → k < n → has_at (cell_from t start') n' first' (first + k) (cell_from t start k) ≡ sharedb t i k
      same k l =
          let f : first' ≡ stretch_in t p 0 = omega (arith, r'.stretch 0) in
          has_same (cell_from t start') (listed t p) n' first' (first + k) (cell_from t start k) r'.number
          ∙ (λ q. has_at (listed t p) (r'.held q) (f q) (r.stretch k q) (r.number k l q))
          ∙ sym (shared-with t i k p e d)

  -- ---- a record
  module _ (p : ℕ) (lp : p < places) where
    pub unused-passes : (m : List ℕ) → get_or t (record_base p) 0 ≡ 0 → Passes t p (p + 1) m m 0 most_held
    unused-passes m z = none-own t ok p (omega arith) (λ k l. absurd (let y : ⊥ = omega (arith, list.record-held-unused t p lp z) in y)) m

    pub record-passes : (start n first : ℕ) (m m' : List ℕ) (c : ℕ) → RowOf t p start n first → Marked (λ k. true) (cell_from t start) m n m' c → Passes t p (p + 1) m m' c most_held
    record-passes start n first m m' c = whole-passes p start n first m m' c (omega arith) (list.record-family t p lp)

  -- ---- an opening
  module _ (j : ℕ) (lj : j < entries) where
    pub read-passes : (m : List ℕ) → get_or t (opening_base j + 2) 0 ≡ 0 → Passes t (places + j) (places + j + 1) m m 0 most_held
    read-passes m z = none-own t ok (places + j) (omega arith) (read-shared t ok j lj (cells.permit-cell t j ∙ z)) m

    pub new-passes : (start n first : ℕ) (m m' : List ℕ) (c : ℕ) → get_or t (opening_base j + 1) 0 ≡ 0 → RowOf t (places + j) start n first
        → Marked (λ k. true) (cell_from t start) m n m' c → Passes t (places + j) (places + j + 1) m m' c most_held
    new-passes start n first m m' c z = whole-passes (places + j) start n first m m' c (omega arith) (list.opening-family-none t j (cells.place-cell t j ∙ z))

    -- an entry with a permit is open
    pub with-permit : get_or t (opening_base j + 2) 0 ≢ 0 → get_or t (opening_base j) 0 ≢ 0
    with-permit d z = d (sym (cells.permit-cell t j) ∙ closed-permit t ok.2 j lj (cells.opened-cell t j ∙ z))

    -- its record
    module _ (d : get_or t (opening_base j + 1) 0 ≢ 0) where
      named : (opening_at t j).place ≢ 0
      named z = d (sym (cells.place-cell t j) ∙ z)

      pub work-place : get_or t (opening_base j + 1) 0 - 1 < places
      work-place = omega (arith, cells.place-cell t j, its-record t ok j lj named)

      pub work-record : get_or t (opening_base j) 0 ≢ 0 → get_or t (record_base (get_or t (opening_base j + 1) 0 - 1)) 0 ≢ 0
      work-record o z =
          let p : ℕ = get_or t (opening_base j + 1) 0 - 1 in
          let e : (opening_at t j).place - 1 ≡ p = ap (λ (x : ℕ). x - 1) (cells.place-cell t j) in
          let u : (record_at t ((opening_at t j).place - 1)).used ≡ 1 = eqb-true _ 1 ((opening-at t ok j lj o).existing named) in
          omega (arith, u, ap (λ (x : ℕ). (record_at t x).used) e, cells.used-cell t p)

      pub work-passes : (start n first start' n' first' : ℕ) (m m' : List ℕ) (c : ℕ) → RowOf t (places + j) start n first → RowOf t (get_or t (opening_base j + 1) 0 - 1) start' n' first'
          → Marked (changed (cell_from t start) first (cell_from t start') n' first') (cell_from t start) m n m' c → Passes t (places + j) (places + j + 1) m m' c most_held
      work-passes start n first start' n' first' m m' c =
          changed-passes (places + j) (get_or t (opening_base j + 1) 0 - 1) start n first start' n' first' m m' c (omega arith)
          (its-family t ok j lj named ∙ ap (λ (x : ℕ). x - 1) (cells.place-cell t j)) (λ e. omega (arith, work-place))
