-- The rows of the lists as the code lends them; how many segments a list holds, by the cells of its record or opening.
-- Assumes nothing.
use Prim.Native.Nat.{ℕ, ◌+◌, ◌-◌, ◌≤◌, ◌<◌}
use mathlib.Core.Path.{◌≡◌, sym, ap, subst₃, ◌∙◌}
use mathlib.Core.Bool.{cond}
use mathlib.Core.List.{List}
use native.Mathlib.Omega.{arith}
use lib.Dec.{eqb}
use lib.ListN.{length, get_or, take, drop}
use Rattle.combine.specs.Lists.{part}
use Rattle.placing.specs.Sizes.{lists}
use Rattle.placing.specs.Placing.{held_of}
use Rattle.tables.specs.Layout.{record_base, opening_base}
use Rattle.tables.specs.Fields.{held_by_record, held_by_opening}
use Rattle.tables.specs.Lists.{held_in}
use Rattle.tables.specs.Laws.Sound.{Ranged}
use Rattle.tables.specs.Laws.ExtentFacts.{SoundExtent}
use Rattle.sound_lists.specs.FieldCells as cells
use Rattle.sound_lists.specs.ListCells as list
use Rattle.sound_lists.specs.ListFacts.{record-at, opening-at}
use Rattle.free_count.specs.Rows.{start_of, row_of, row_fits}

-- c cells from a on
pub lent-part : (t : List ℕ) (a c : ℕ) → take (a + c - a) (drop a t) ≡ part t a c
unfolding part
lent-part t a c =
    let e : a + c - a ≡ c = omega arith in
    ap (λ (n : ℕ). take n (drop a t)) e

pub lent_row : (t : List ℕ) (i s c : ℕ) → s ≡ start_of i → c ≡ held_in t i → take (s + c - s) (drop s t) ≡ row_of t i
unfolding row_of
lent_row t i s c es ec = lent-part t s c ∙ (λ j. part t (es j) (ec j))

pub lent_fits : (t : List ℕ) → Ranged t → (i s c : ℕ) → i < lists → s ≡ start_of i → c ≡ held_in t i → s + c ≤ length t
lent_fits t w i s c l es ec = let f = row_fits t w i l in omega arith

-- ---- held segments

module _ (t : List ℕ) (p : ℕ) (l : p < 64) where
  pub held-record : (r : ℕ) → r ≡ cond (eqb (get_or t (record_base p) 0) 0) 0 (held_of (get_or t (record_base p + 15) 0) (get_or t (record_base p + 16) 0) (get_or t (record_base p + 17) 0)) → r ≡ held_in t p
  unfolding held_by_record
  held-record r e =
      e ∙ sym (list.record-held t p l ∙ (λ j. cond (eqb (cells.used-cell t p j) 0) 0 (held_of (cells.species-cell t p j) (cells.begin-cell t p j) (cells.end-cell t p j))))

  pub extent-record : Ranged t → (get_or t (record_base p) 0 ≡ 0 → ⊥) → SoundExtent (get_or t (record_base p + 15) 0) (get_or t (record_base p + 16) 0) (get_or t (record_base p + 17) 0)
  extent-record w d = subst₃ SoundExtent (cells.species-cell t p) (cells.begin-cell t p) (cells.end-cell t p) (record-at t w p l d).extent

module _ (t : List ℕ) (i : ℕ) (l : 64 ≤ i) where
  pub held-opening : (r : ℕ) → r ≡ cond (eqb (get_or t (opening_base (i - 64)) 0) 0) 0 (held_of (get_or t (opening_base (i - 64) + 3) 0) (get_or t (opening_base (i - 64) + 4) 0) (get_or t (opening_base (i - 64) + 5) 0)) → r ≡ held_in t i
  unfolding held_by_opening
  held-opening r e =
      let o : ℕ = i - 64 in
      let same : i ≡ 64 + o = omega arith in
      e ∙ sym (ap (held_in t) same ∙ list.opening-held t o ∙ (λ j. cond (eqb (cells.opened-cell t o j) 0) 0 (held_of (cells.opening-species-cell t o j) (cells.opening-begin-cell t o j) (cells.opening-end-cell t o j))))

  pub extent-opening : Ranged t → i < lists → (get_or t (opening_base (i - 64)) 0 ≡ 0 → ⊥) → SoundExtent (get_or t (opening_base (i - 64) + 3) 0) (get_or t (opening_base (i - 64) + 4) 0) (get_or t (opening_base (i - 64) + 5) 0)
  extent-opening w h d =
      let o : ℕ = i - 64 in
      subst₃ SoundExtent (cells.opening-species-cell t o) (cells.opening-begin-cell t o) (cells.opening-end-cell t o) (opening-at t w o (omega arith) d).extent
