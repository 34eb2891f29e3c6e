-- An entry of the tables, by its row. Assumes nothing.
use Prim.Native.Nat.{ℕ, ◌+◌, ◌<◌}
use mathlib.Core.Path.{◌≡◌, refl, sym, ap, ◌∙◌}
use mathlib.Core.Logic.{◌≢◌}
use mathlib.Core.List.{List}
use native.Mathlib.Omega.{arith}
use borrow.Author.Tests.{eq-eqb, ne_eqb}
use lib.Dec.{eqb}
use lib.ListN.{length, get_or}
use Rattle.combine.specs.Lists.{part}
use Rattle.combine.specs.Laws.Parts.{length_part}
use Rattle.placing.specs.Sizes.{entries, tables_length, opening_length}
use Rattle.tables.specs.declared.Opening.{Opening}
use Rattle.tables.specs.Layout.{opening_of, opening_at, opening_base}
use Rattle.tables.specs.Openings.{closedb, openb, openingb}
use Rattle.sound_extents.specs.Slices.{sliced, sliced-part, all_cells}
use Rattle.sound_openings.specs.Closed.{closed-row}

-- the row, as the code takes it
abbrev row : List ℕ → ℕ → List ℕ
row t i = sliced t (opening_base i) (opening_base i + opening_length)

module _ (t : List ℕ) (i : ℕ) where
  row-part : row t i ≡ part t (opening_base i) opening_length
  row-part = sliced-part t (opening_base i) (opening_base i + opening_length) opening_length refl

  row-opening : opening_of (row t i) ≡ opening_at t i
  unfolding opening_at
  row-opening = ap opening_of row-part

  row_opened : get_or (row t i) 0 0 ≡ (opening_at t i).opened
  unfolding opening_of
  row_opened = ap (λ (o : Opening). o.opened) row-opening

  pub closed-entry : length t ≡ tables_length → i < entries → get_or (row t i) 0 0 ≡ 0 → all_cells (λ x. eqb x 0) (row t i) ≡ openingb t i
  unfolding openingb
  closed-entry l h e =
      let n : length (row t i) ≡ opening_length = ap length row-part ∙ length_part t (opening_base i) opening_length (omega arith) in
      closed-row (row t i) e n ∙ ap closedb row-opening ∙ simp (eq-eqb _ _ (sym row_opened ∙ e))

  pub open-entry : get_or (row t i) 0 0 ≢ 0 → openb t i (opening_of (row t i)) ≡ openingb t i
  unfolding openingb
  open-entry d = ap (openb t i) row-opening ∙ simp (ne_eqb _ _ (λ e. d (row_opened ∙ e)))
