-- What holds of every form of image: the round trips are proved of any form of which it holds. Assumes nothing.
use Rattle.std.specs.Prelude.{ℕ, ◌+◌, ◌-◌, ◌*◌, ◌^◌, ◌≤◌, ◌<◌, ◌≡◌, refl, true, cond, List, [], ◌∷◌, leb, ltb, length, get_or}
use Rattle.std.proofs.Common.{ap, ◌∙◌, leb-true, lit<, length-append}
use Rattle.combine.specs.Below.{all_below}
use Rattle.combine.specs.Laws.Below.{all-at}
use Rattle.packing.specs.Packing.{sum}
use Rattle.placing.specs.Sizes.{most_segments, record_length}
use Rattle.image.specs.Image.{Form, record_widths, form1, form2, served, row_widths}

-- ---- above each number of a sound record whose begin and end are g at most: used; symbols; owner, private, species, begin, end; segment numbers

abbrev pub heads : ℕ → List ℕ
heads g = 8 ∷ 2 ∷ 8 ∷ (g + 1) ∷ (g + 1) ∷ []

unfoldable pub limit : ℕ → ℕ → ℕ
limit g k = cond (ltb k 1) 2 (cond (ltb k 13) 64 (cond (ltb k 18) (get_or (heads g) (k - 13) 0) most_segments))

pub record Formed (f : Form) : Type 0 where
  -- the fields of a record and the zeros at its end fill its cells
  pub full : sum (row_widths f) ≡ 32 * f.cells
  -- a field for each cell of a record in the tables
  pub many : length f.widths ≡ record_length
  -- "form 8 bits"
  pub small : f.number < 256
  -- each number of a sound record has room, begin and end up to the greatest of the form
  pub wide : (k : ℕ) → k < record_length → limit f.greatest k ≤ 2 ^ get_or f.widths k 0
  -- and no greater begin and end have
  pub begins : 2 ^ get_or f.widths 16 0 ≡ f.greatest + 1
  pub ends : 2 ^ get_or f.widths 17 0 ≡ f.greatest + 1

wide_enough : (f : Form) → all_below record_length (λ k. leb (limit f.greatest k) (2 ^ get_or f.widths k 0)) ≡ true → (k : ℕ) → k < record_length → limit f.greatest k ≤ 2 ^ get_or f.widths k 0
wide_enough f h k l = leb-true _ _ (all-at (λ k. leb (limit f.greatest k) (2 ^ get_or f.widths k 0)) record_length h k l)

pub formed1 : Formed form1
unfolding sum record_widths limit all_below
formed1 = record { full = refl; many = refl; small = lit< tt; wide = wide_enough form1 refl; begins = refl; ends = refl }

pub formed2 : Formed form2
unfolding sum record_widths limit all_below
formed2 = record { full = refl; many = refl; small = lit< tt; wide = wide_enough form2 refl; begins = refl; ends = refl }

pub formed-served : Formed served
formed-served = formed2

pub row-many : (f : Form) → Formed f → length (row_widths f) ≡ record_length + length f.spare
row-many f w = length-append f.widths f.spare ∙ ap (λ (n : ℕ). n + length f.spare) w.many
