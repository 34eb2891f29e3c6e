-- What an opening says, by its cells. Assumes nothing.
use Prim.Native.Nat.{ℕ, suc, zero, ◌+◌, ◌<◌}
use mathlib.Core.Path.{◌≡◌, refl, ap, ◌∙◌}
use mathlib.Core.List.{List, [], ◌∷◌}
use native.Mathlib.Omega.{arith}
use lib.ListN.{length, get_or, get_or-map, get_or-eq_default}
use Rattle.combine.specs.Lists.{part}
use Rattle.combine.specs.Laws.Parts.{get_d_part}
use Rattle.placing.specs.Sizes.{entries, tables_length}
use Rattle.placing.specs.Placing.{position}
use Rattle.rules.specs.Headings.{value}
use Rattle.tables.specs.Layout.{position_number, opening_base, opening_of, opening_at}
use Rattle.tables.specs.Fields.{value_of}
use Rattle.tables.specs.Handles.{handle_in}
use Rattle.tables.specs.Laws.Pointers.{value_in, value_none}
use Rattle.tables.specs.Laws.Put.{opening-shaped-at}
use Rattle.call_ask.specs.Told.{field_at}

-- an element that is there does not depend on what stands for one that is not
element-there : (l : List ℕ) (k d d' : ℕ) → k < length l → get_or l k d ≡ get_or l k d'
element-there [] k d d' h = absurd (omega arith)
element-there (x ∷ l) zero d d' h = refl
element-there (x ∷ l) (suc k) d d' h = element-there l k d d' (omega arith)

module _ (t : List ℕ) (i : ℕ) where
  cell : (k : ℕ) → k < 56 → get_or (part t (opening_base i) 56) k 0 ≡ field_at t i k
  unfolding field_at
  cell k h = get_d_part t (opening_base i) 56 k h

  pub permit-cell : (opening_at t i).permit ≡ field_at t i 2
  unfolding opening_at opening_of
  permit-cell = cell 2 (omega arith)

  pub species-cell : (opening_at t i).species ≡ field_at t i 3
  unfolding opening_at opening_of
  species-cell = cell 3 (omega arith)

  pub value_cell : (p : ℕ) → p < 8 → value (handle_in (opening_at t i)) p ≡ field_at t i (4 + p)
  unfolding opening_at opening_of value_of
  value_cell p h =
      value_in (opening_at t i) p
      ∙ ap position_number (get_or-map position (part (part t (opening_base i) 56) 4 8) p 0)
      ∙ get_d_part (part t (opening_base i) 56) 4 8 p h
      ∙ cell (4 + p) (omega arith)

  module _ (long : length t ≡ tables_length) (li : i < entries) where
    pub value-beyond : (p : ℕ) → 7 < p → value (handle_in (opening_at t i)) p ≡ 0
    value-beyond p h = value_in (opening_at t i) p ∙ value_none (opening_at t i) p (opening-shaped-at t long i li).pointers8 h

    pub symbol-beyond : (k : ℕ) → 11 < k → get_or (opening_at t i).name k 63 ≡ 63
    symbol-beyond k h = get_or-eq_default (opening_at t i).name 63 {n = k} (omega (arith, (opening-shaped-at t long i li).name12))

    pub symbol-cell : (k : ℕ) → k < 12 → get_or (opening_at t i).name k 63 ≡ field_at t i (12 + k)
    unfolding opening_at opening_of
    symbol-cell k h =
        element-there (opening_at t i).name k 63 0 (omega (arith, (opening-shaped-at t long i li).name12))
        ∙ get_d_part (part t (opening_base i) 56) 12 12 k h
        ∙ cell (12 + k) (omega arith)
