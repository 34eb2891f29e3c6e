-- A record's fields c and the zeros at its end, in the widths of a form. Assumes nothing.
use Rattle.std.specs.Prelude.{ℕ, ◌+◌, ◌-◌, ◌*◌, ◌/◌, ◌^◌, ◌≤◌, ◌<◌, ◌≡◌, true, List, [], ◌∷◌, ◌++◌, eqb, take, replicate}
use Rattle.std.proofs.Common.{sym, ap, ◌∙◌, append-nil, arith, pow_pos, take_at, take_all, take-take, get_or-append-add}
use Rattle.std.proofs.Math.Logic.{⊎_elim}
use borrow.Author.Tests.{eqb-true, eq-eqb}
use Rattle.std.proofs.Math.ListN.{length, get_or, length-append, get_or-append}
use Rattle.std.proofs.lemmas.List.{length-replicate, get_or-replicate}
use Rattle.combine.specs.Below.{all_below}
use Rattle.combine.specs.Laws.Below.{all-at, all-make}
use Rattle.combine.specs.Laws.Numbers.{le-or-lt}
use Rattle.combine.specs.Laws.Parts.{length_part}
use Rattle.packing.specs.Packing.{row_of, sum, unpacked}
use Rattle.packing_rows.specs.Waiting.{Fitting}
use Rattle.packing_rows.specs.Zeros.{pack-zeros}
use Rattle.placing.specs.Sizes.{record_length}
use Rattle.image.specs.Image.{Form, form1, form2, row_widths, packed_record, record_part, record_from}
use Rattle.image.specs.Forms.{form_of}
use Rattle.image.specs.declared.Form as code
use Rattle.image.specs.declared.Form.TheVariants.{One, Two}
use Rattle.image.specs.Laws.Formed.{Formed, formed1, formed2, row-many}
use Rattle.image_code.specs.Fits.{Fits}
use Rattle.image_code.specs.Widths.{fields-above}

module _ (f : Form) where
  abbrev pub zeros_of : List ℕ
  zeros_of = replicate (length f.spare) 0

  zeros-many : length zeros_of ≡ length f.spare
  zeros-many = length-replicate (length f.spare) 0

  -- behind the fields all is zero
  pub zero-behind : (c : List ℕ) (i : ℕ) → length c ≤ i → i < length c + length f.spare → get_or (c ++ zeros_of) i 0 ≡ 0
  zero-behind c i h l =
      let j : ℕ = i - length c in
      let e : i ≡ length c + j = omega arith in
      ap (λ (n : ℕ). get_or (c ++ zeros_of) n 0) e ∙ get_or-append-add c zeros_of j 0 ∙ get_or-replicate (length f.spare) j 0 0 (omega arith)

  -- fields that are all zero fill cells that are
  pub packed-blank : (c : List ℕ) → all_below (length c) (λ k. eqb (get_or c k 0) 0) ≡ true → packed_record f c ≡ replicate f.cells 0
  unfolding packed_record
  packed-blank c z = pack-zeros (row_widths f) (c ++ zeros_of) f.cells (all-make _ (length (c ++ zeros_of)) (λ k l. eq-eqb (get_or (c ++ zeros_of) k 0) 0 (at k l)))
    where
      at : (k : ℕ) → k < length (c ++ zeros_of) → get_or (c ++ zeros_of) k 0 ≡ 0
      at k l =
          ⊎_elim (λ h. zero-behind c k h (omega (arith, length-append c zeros_of, zeros-many)))
          (λ h. get_or-append c zeros_of 0 k h ∙ eqb-true (get_or c k 0) 0 (all-at _ (length c) z k h)) (le-or-lt (length c) k)

  module _ (w : Formed f) (c : List ℕ) (long : length c ≡ record_length) where
    pub row-length : length (c ++ zeros_of) ≡ length (row_widths f)
    row-length = length-append c zeros_of ∙ (λ i. long i + zeros-many i) ∙ sym (row-many f w)

    -- fields that fit, and zeros
    pub row_fits : Fits f c → Fitting (row_widths f) (c ++ zeros_of)
    row_fits h i l = ⊎_elim beyond within (le-or-lt record_length i)
      where
        within : i < record_length → get_or (c ++ zeros_of) i 0 < 2 ^ get_or (row_widths f) i 0
        within r =
            let a : get_or (c ++ zeros_of) i 0 ≡ get_or c i 0 = get_or-append c zeros_of 0 i (omega arith) in
            let b : get_or (row_widths f) i 0 ≡ get_or f.widths i 0 = get_or-append f.widths f.spare 0 i (omega (arith, w.many)) in
            rw (a, b) (h i r)

        beyond : record_length ≤ i → get_or (c ++ zeros_of) i 0 < 2 ^ get_or (row_widths f) i 0
        beyond r = omega (arith, zero-behind c i (omega arith) (omega (arith, l, row-many f w)), pow_pos (get_or (row_widths f) i 0))

-- the fields and one zero, as far as the form has widths
pub row-taken : (form : code.Form) (c : List ℕ) (n : ℕ) → length c ≡ record_length → n ≡ length (row_widths (form_of form)) → take n (c ++ 0 ∷ []) ≡ c ++ zeros_of (form_of form)
row-taken One c n l e = ap (λ (k : ℕ). take k (c ++ 0 ∷ [])) (e ∙ row-many form1 formed1) ∙ take_at c (0 ∷ []) record_length l ∙ sym (append-nil c)
row-taken Two c n l e = take_all n (c ++ 0 ∷ []) (omega (arith, e, row-many form2 formed2, l, length-append c (0 ∷ [])))

-- ---- a record that is read

-- the fields are the first of the widths
pub fields-first : (f : Form) → Formed f → (r : List ℕ) → take (length (row_widths f)) r ≡ row_widths f → take record_length r ≡ f.widths
fields-first f w r e =
    sym (take-take record_length (length (row_widths f)) r (omega (arith, row-many f w))) ∙ ap (take record_length) e ∙ take_at f.widths f.spare record_length w.many

-- what is read of a record's cells, by its fields' widths
pub record-taken : (f : Form) → Formed f → (img : List ℕ) (p : ℕ) (fields cells out : List ℕ) → fields ≡ f.widths → cells ≡ record_part f img p → 1 + f.cells * p + f.cells ≤ length img
    → out ≡ unpacked fields (row_of cells / 2 ^ (32 * length cells - sum fields)) → out ≡ record_from f img p
unfolding record_from
record-taken f w img p fields cells out e h inside o =
    o ∙ (λ j. unpacked (e j) (row_of (h j) / 2 ^ (32 * length (h j) - sum (e j)))) ∙ fields-above f w (record_part f img p) (length_part img (1 + f.cells * p) f.cells inside)
