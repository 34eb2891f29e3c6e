-- Where the lists of segment numbers lie in the cells t of the tables: list i is the row of cells that starts at `start_of i`.
-- Assumes nothing.
use Rattle.std.specs.Prelude.{ℕ, ◌+◌, ◌-◌, ◌≤◌, ◌<◌, ◌≡◌, cond, List, ltb, length, get_or, take}
use Rattle.std.proofs.Math.Path.{sym}
use Rattle.std.proofs.Common.{ap, ◌∙◌, ⊎_elim, arith, take-take, ext_get_or, lt-ltb, le-ltb}
use Rattle.combine.specs.Laws.Numbers.{le-or-lt}
use Rattle.combine.specs.Lists.{part}
use Rattle.combine.specs.Laws.Parts.{length_part, get_d_part}
use Rattle.placing.specs.Sizes.{tables_length, most_held, lists, places}
use Rattle.tables.specs.Layout.{record_base, opening_base}
use Rattle.tables.specs.Lists.{held_in, listed}
use Rattle.tables.specs.Laws.Sound.{Ranged}
use Rattle.sound_lists.specs.ListCells.{record-number-cell, opening-number-cell}
use Rattle.sound_lists.specs.ListFacts.{list-facts}

unfoldable pub start_of : ℕ → ℕ
start_of i = cond (ltb i places) (record_base i + 18) (opening_base (i - places) + 24)

-- the numbers that list i holds
unfoldable pub row_of : List ℕ → ℕ → List ℕ
row_of t i = part t (start_of i) (held_in t i)

-- ---- parts

pub part-part : (t : List ℕ) (a n b h : ℕ) → b + h ≤ n → a + n ≤ length t → part (part t a n) b h ≡ part t (a + b) h
part-part t a n b h l m =
    let c : length (part t a n) ≡ n = length_part t a n m in
    let p : length (part (part t a n) b h) ≡ h = length_part (part t a n) b h (omega arith) in
    let q : length (part t (a + b) h) ≡ h = length_part t (a + b) h (omega arith) in
    ext_get_or 0 (part (part t a n) b h) (part t (a + b) h) (p ∙ sym q) (λ k r. at k (omega arith))
  where
    at : (k : ℕ) → k < h → get_or (part (part t a n) b h) k 0 ≡ get_or (part t (a + b) h) k 0
    at k r =
        let e : a + (b + k) ≡ a + b + k = omega arith in
        get_d_part (part t a n) b h k r ∙ get_d_part t a n (b + k) (omega arith) ∙ ap (λ (x : ℕ). get_or t x 0) e ∙ sym (get_d_part t (a + b) h k r)

pub take_part : (t : List ℕ) (a h m : ℕ) → h ≤ m → take h (part t a m) ≡ part t a h
unfolding part
take_part t a h m l = take-take h m _ l

-- ---- by a list's kind

module _ (i : ℕ) where
  pub start-record : i < places → start_of i ≡ record_base i + 18
  unfolding start_of
  start-record l = simp (lt-ltb i places l)

  pub start-opening : places ≤ i → start_of i ≡ opening_base (i - places) + 24
  unfolding start_of
  start-opening l = simp (le-ltb i places l)

  pub row_inside : i < lists → start_of i + most_held ≤ tables_length
  row_inside l =
      ⊎_elim (λ h. let e = start-opening h in omega arith) (λ h. let e = start-record h in omega arith) (le-or-lt places i)

-- the kth number of list i is the kth cell of its row
pub listed-cell : (t : List ℕ) (i k : ℕ) → k < most_held → listed t i k ≡ get_or t (start_of i + k) 0
listed-cell t i k l = ⊎_elim entered filed (le-or-lt places i)
  where
    filed : i < places → listed t i k ≡ get_or t (start_of i + k) 0
    filed h = record-number-cell t i h k l ∙ ap (λ (a : ℕ). get_or t (a + k) 0) (sym (start-record i h))

    entered : places ≤ i → listed t i k ≡ get_or t (start_of i + k) 0
    entered h =
        let e : i ≡ places + (i - places) = omega arith in
        ap (λ (j : ℕ). listed t j k) e ∙ opening-number-cell t (i - places) k l ∙ ap (λ (a : ℕ). get_or t (a + k) 0) (sym (start-opening i h))

-- ---- in `Ranged` tables

module _ (t : List ℕ) (w : Ranged t) (i : ℕ) (li : i < lists) where
  pub row_fits : start_of i + held_in t i ≤ length t
  row_fits = let l = w.0 in omega (arith, (list-facts t w i li).held, row_inside i li)

  pub length-row : length (row_of t i) ≡ held_in t i
  unfolding row_of
  length-row = length_part t (start_of i) (held_in t i) row_fits

  pub row_at : (k : ℕ) → k < held_in t i → get_or (row_of t i) k 0 ≡ listed t i k
  unfolding row_of
  row_at k h = get_d_part t (start_of i) (held_in t i) k h ∙ sym (listed-cell t i k (omega (arith, (list-facts t w i li).held)))
