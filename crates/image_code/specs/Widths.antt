-- The widths of the image's head, and of a record in a form: they fill their cells, and each is that of a field. Assumes nothing.
use Prim.Native.Nat.{ℕ, ◌+◌, ◌-◌, ◌*◌, ◌/◌, ◌^◌, ◌≤◌, ◌<◌, zero-le}
use Rattle.std.specs.Prelude.{◌≡◌, refl, Bool, true, ◌&&◌, leb, get_or, take}
use Rattle.std.proofs.Math.Path.{sym, ap}
use Rattle.std.proofs.Common.{◌∙◌, le_refl, arith, leb-true, lit<, lit≤, take_at}
use mathlib.Core.List.{List}
use Rattle.std.proofs.Math.ListN.{length}
use Rattle.combine.specs.Below.{all_below}
use Rattle.combine.specs.Laws.Below.{all-at, left-of, right_of}
use Rattle.packing.specs.Packing.{row_of, sum, unpacked}
use Rattle.packing_rows.specs.Waiting.{Narrow}
use Rattle.packing_rows.specs.Pack.{unpacked-length}
use Rattle.packing_rows.specs.Two.{sum-append, unpacked-append}
use Rattle.placing.specs.Sizes.{record_length}
use Rattle.image.specs.Image.{Form, form1, form2, head_widths, record_widths, row_widths, unpacked_record}
use Rattle.image.specs.Forms.{form_of}
use Rattle.image.specs.declared.Form as code
use Rattle.image.specs.declared.Form.TheVariants.{One, Two}
use Rattle.image.specs.Laws.Formed.{Formed, formed1, formed2}

pub head-sum : sum head_widths ≡ 32
unfolding sum head_widths
head-sum = refl

pub head-many : length head_widths ≡ 3
unfolding head_widths
head-many = refl

-- 1 to 32 digits
narrow : List ℕ → ℕ → Bool
narrow ws k = leb 1 (get_or ws k 0) && leb (get_or ws k 0) 32

narrow-out : (ws : List ℕ) (n : ℕ) → all_below n (narrow ws) ≡ true → (k : ℕ) → k < n → (1 ≤ get_or ws k 0) × (get_or ws k 0 ≤ 32)
unfolding narrow
narrow-out ws n p k l =
    let f = all-at (narrow ws) n p k l in
    (leb-true _ _ (left-of (leb 1 (get_or ws k 0)) (leb (get_or ws k 0) 32) f), leb-true _ _ (right_of (leb 1 (get_or ws k 0)) (leb (get_or ws k 0) 32) f))

pub head-narrow : Narrow head_widths
unfolding narrow all_below head_widths
head-narrow = narrow-out head_widths 3 refl

-- ---- of a record, in either form of the code

pub formed : (form : code.Form) → Formed (form_of form)
formed One = formed1
formed Two = formed2

pub row-narrow : (form : code.Form) → Narrow (row_widths (form_of form))
unfolding narrow all_below record_widths
row-narrow One = narrow-out (row_widths form1) record_length refl
row-narrow Two = narrow-out (row_widths form2) (record_length + 1) refl

pub fields-narrow : (form : code.Form) → Narrow (form_of form).widths
unfolding narrow all_below record_widths
fields-narrow One = narrow-out form1.widths record_length refl
fields-narrow Two = narrow-out form2.widths record_length refl

-- at most one width of zeros, of fewer bits than a cell has
pub few-zeros : (form : code.Form) → (length (form_of form).spare ≤ 1) × (sum (form_of form).spare < 32)
unfolding sum
few-zeros One = (zero-le, lit< tt)
few-zeros Two = (le_refl 1, lit< tt)

-- a record has 14 cells or one more
abbrev pub fewest_cells : ℕ
fewest_cells = form1.cells

pub few-cells : (form : code.Form) → (fewest_cells ≤ (form_of form).cells) × ((form_of form).cells ≤ fewest_cells + 1)
few-cells One = (lit≤ tt, lit≤ tt)
few-cells Two = (lit≤ tt, lit≤ tt)

-- ---- the fields are above the zeros

module _ (f : Form) (w : Formed f) where
  pub fields-sum : sum f.widths + sum f.spare ≡ 32 * f.cells
  fields-sum = sym (sum-append f.widths f.spare) ∙ w.full

  pub fields-above : (c : List ℕ) → length c ≡ f.cells → unpacked f.widths (row_of c / 2 ^ (32 * length c - sum f.widths)) ≡ unpacked_record f c
  unfolding unpacked_record
  fields-above c l =
      let below : 32 * length c - sum f.widths ≡ sum f.spare = omega (arith, fields-sum) in
      let top : List ℕ = unpacked f.widths (row_of c / 2 ^ sum f.spare) in
      ap (λ (n : ℕ). unpacked f.widths (row_of c / 2 ^ n)) below
      ∙ sym (take_at top (unpacked f.spare (row_of c)) record_length (unpacked-length f.widths _ ∙ w.many))
      ∙ ap (take record_length) (sym (unpacked-append f.widths f.spare (row_of c)))
