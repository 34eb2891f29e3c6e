-- An image of tables gives the tables back, and tables of an image give the image back, in every form. Assumes nothing.
use Prim.Native.Nat.{ℕ, suc, ◌+◌, ◌-◌, ◌*◌, ◌≤◌, ◌<◌}
use Rattle.std.proofs.Math.Nat.{mul_comm}
use Rattle.std.proofs.Common.{mul-suc, mul-le-mul_left, ◌∙◌, arith, take-add, get_or-drop}
use Rattle.std.specs.Prelude.{◌≡◌, refl, true, replicate}
use Rattle.std.proofs.Math.Path.{sym, ap}
use mathlib.Core.List.{List, [], ◌∷◌, ◌++◌, append-nil}
use borrow.Author.Tests.{eqb-true, eq-eqb}
use Rattle.std.proofs.Math.ListN.{length, get_or, take, drop, length-append, length-replicate, length-drop, get_or-replicate, take-append-drop}
use Rattle.std.proofs.Math.Seq.{take_at, take_all, ext_get_or}
use Rattle.combine.specs.Laws.Below.{all-at, all-make}
use Rattle.combine.specs.Lists.{part, joined, tab}
use Rattle.combine.specs.Laws.Lists.{tab-cong}
use Rattle.combine.specs.Laws.Parts.{length_part}
use Rattle.packing.specs.Packing.{packed, unpacked, row_of, cells_of}
use Rattle.placing.specs.Sizes.{places, tables_length, record_length, records_start, openings_start}
use Rattle.tables.specs.Layout.{record_base, segments_in, none_open}
use Rattle.image.specs.Image.{Form, image_length, head_widths, row_widths, head_image, packed_record, record_image, image_of, head_field, record_part, unpacked_record, record_from, tables_from, spareb, sparesb}
use Rattle.image.specs.Laws.Formed.{Formed}
use Rattle.packing_rows.specs.Cells.{Cells, part-cells}
use Rattle.packing_rows.specs.Pack.{unpacked-length}
use Rattle.packing_rows.specs.Whole.{packed-back, cells-back}
use Rattle.image_code.specs.Widths.{head-sum, head-many}
use Rattle.image_code.specs.Lengths.{head-length, record-image-length, row-long, record-from-length}
use Rattle.image_code.specs.Pieces.{pieces-part, pieces-length, piece-at}
use Rattle.image_code.specs.Fits.{Fits, head-fits}
use Rattle.image_code.specs.Rows.{zeros_of, zero-behind, row-length, row_fits}
use Rattle.proof_images.specs.Closed.{closed}

-- ---- parts

head-part : (h x : List ℕ) → length h ≡ 1 → part (h ++ x) 0 1 ≡ h
unfolding part
head-part h x l = take_at h x 1 l

first_more : (t : List ℕ) (n : ℕ) → 1 ≤ length t → get_or t 0 0 ∷ part t 1 n ≡ take (suc n) t
unfolding part
first_more [] n h = absurd (let z : ⊥ = omega arith in z)
first_more (x ∷ t) n h = refl

three : (n : ℕ) (xs : List ℕ) → length xs ≡ 3 → get_or xs 0 0 ≡ n → get_or xs 2 0 ≡ 0 → n ∷ get_or xs 1 0 ∷ 0 ∷ [] ≡ xs
three n [] e p q = absurd (let z : ⊥ = omega arith in z)
three n (x ∷ []) e p q = absurd (let z : ⊥ = omega arith in z)
three n (x ∷ y ∷ []) e p q = absurd (let z : ⊥ = omega arith in z)
three n (x ∷ y ∷ z ∷ []) e p q = λ j. sym p j ∷ y ∷ sym q j ∷ []
three n (x ∷ y ∷ z ∷ w ∷ xs) e p q = absurd (let z : ⊥ = omega arith in z)

module _ (f : Form) (w : Formed f) where
  -- ---- the head, and a record

  head-back : (n : ℕ) → n < 2048 → unpacked head_widths (row_of (head_image f n)) ≡ f.number ∷ n ∷ 0 ∷ []
  unfolding head_image
  head-back n h = packed-back head_widths 1 head-sum (f.number ∷ n ∷ 0 ∷ []) (sym head-many) (head-fits f w n h)

  record-back : (c : List ℕ) → length c ≡ record_length → Fits f c → unpacked (row_widths f) (row_of (packed_record f c)) ≡ c ++ zeros_of f
  unfolding packed_record
  record-back c l h = packed-back (row_widths f) f.cells w.full (c ++ zeros_of f) (row-length f w c l) (row_fits f w c l h)

  -- ---- the image of tables

  module _ (t : List ℕ) where
    image-head : part (image_of f t) 0 1 ≡ head_image f (segments_in t)
    unfolding image_of
    image-head = head-part (head_image f (segments_in t)) _ (head-length f (segments_in t))

    pub image-field : segments_in t < 2048 → (k : ℕ) → head_field (image_of f t) k ≡ get_or (f.number ∷ segments_in t ∷ 0 ∷ []) k 0
    unfolding head_field
    image-field h k = ap (λ (x : List ℕ). get_or (unpacked head_widths (row_of x)) k 0) image-head ∙ ap (λ (x : List ℕ). get_or x k 0) (head-back (segments_in t) h)

    pub image-length : length (image_of f t) ≡ image_length f
    unfolding image_of
    image-length =
        length-append (head_image f (segments_in t)) (joined (tab places (record_image f t)))
        ∙ (λ j. head-length f (segments_in t) j + pieces-length (record_image f t) f.cells (record-image-length f t) places j)
        ∙ ap (λ (n : ℕ). 1 + n) (mul_comm f.cells places)

    image-piece : (p : ℕ) → p < places → record_part f (image_of f t) p ≡ record_image f t p
    unfolding image_of
    image-piece p lp =
        let h : List ℕ = head_image f (segments_in t) in
        let rs : List ℕ = joined (tab places (record_image f t)) in
        (λ j. part (h ++ sym (append-nil rs) j) (sym (head-length f (segments_in t)) j + f.cells * p) f.cells)
        ∙ piece-at (record_image f t) f.cells (record-image-length f t) h [] places p lp

    module _ (long : length t ≡ tables_length) (few : segments_in t < 2048) (fits : (p : ℕ) → p < places → Fits f (part t (record_base p) record_length)) where
      module _ (p : ℕ) (lp : p < places) where
        fields : List ℕ
        fields = part t (record_base p) record_length

        fields-long : length fields ≡ record_length
        unfolding fields
        fields-long = length_part t (record_base p) record_length (omega arith)

        row-again : unpacked (row_widths f) (row_of (record_part f (image_of f t) p)) ≡ fields ++ zeros_of f
        unfolding record_image fields
        row-again = ap (λ (x : List ℕ). unpacked (row_widths f) (row_of x)) (image-piece p lp) ∙ record-back fields fields-long (fits p lp)

        record-again : record_from f (image_of f t) p ≡ part t (record_base p) record_length
        unfolding record_from unpacked_record fields
        record-again = ap (take record_length) row-again ∙ take_at fields (zeros_of f) record_length fields-long

        spare-again : spareb f (record_part f (image_of f t) p) ≡ true
        unfolding spareb fields
        spare-again =
            all-make _ (length f.spare)
            (λ k l. eq-eqb _ 0 (ap (λ (x : List ℕ). get_or x (record_length + k) 0) row-again ∙ zero-behind f fields (record_length + k) (omega (arith, fields-long)) (omega (arith, fields-long))))

      pub spares-again : sparesb f (image_of f t) ≡ true
      unfolding sparesb
      spares-again = all-make _ places spare-again

      pub tables-again : tables_from f (image_of f t) ≡ closed t
      unfolding tables_from closed
      tables-again =
          let rs : joined (tab places (record_from f (image_of f t))) ≡ part t records_start (openings_start - 1) =
          ap joined (tab-cong places (λ p. part t (record_base p) record_length) (record_from f (image_of f t)) record-again) ∙ pieces-part t records_start record_length places in
          (λ j. none_open (image-field few 1 j ∷ rs j)) ∙ ap none_open (first_more t (openings_start - 1) (omega arith))

  -- ---- the tables of an image

  -- "every bit called zero here is zero", and so a record's fields tell its cells
  row-whole : (c : List ℕ) → spareb f c ≡ true → unpacked_record f c ++ zeros_of f ≡ unpacked (row_widths f) (row_of c)
  unfolding spareb unpacked_record
  row-whole c zero =
      let row : List ℕ = unpacked (row_widths f) (row_of c) in
      let many : length (zeros_of f) ≡ length f.spare = length-replicate (length f.spare) 0 in
      let l : length (drop record_length row) ≡ length f.spare = omega (arith, length-drop record_length row, row-long f w c) in
      let zeros : zeros_of f ≡ drop record_length row =
      ext_get_or 0 (zeros_of f) (drop record_length row) (many ∙ sym l)
      (λ k r. let b : k < length f.spare = omega (arith, r, many) in
      get_or-replicate (length f.spare) k 0 0 b ∙ sym (eqb-true (get_or row (record_length + k) 0) 0 (all-at _ (length f.spare) zero k b)) ∙ sym (get_or-drop record_length row k 0)) in
      ap (λ (x : List ℕ). take record_length row ++ x) zeros ∙ take-append-drop record_length row

  -- a record of the tables is the one that the image gives for its place
  pub record-in : (img : List ℕ) (p : ℕ) → p < places → part (tables_from f img) (record_base p) record_length ≡ record_from f img p
  unfolding tables_from
  record-in img p lp = piece-at (record_from f img) record_length (record-from-length f w img) (head_field img 1 ∷ []) (replicate (tables_length - openings_start) 0) places p lp

  module _ (img : List ℕ) (cells : Cells img) (long : length img ≡ image_length f) (spares : sparesb f img ≡ true) where
    piece-in : (p : ℕ) → p < places → 1 + f.cells * p + f.cells ≤ length img
    piece-in p lp = omega (arith, long, mul-le-mul_left {m = suc p} {n = places} f.cells lp, mul-suc f.cells p, mul_comm f.cells places)

    piece-again : (p : ℕ) → p < places → record_image f (tables_from f img) p ≡ record_part f img p
    unfolding record_image packed_record record_from sparesb
    piece-again p lp =
        let c : List ℕ = record_part f img p in
        ap (λ (x : List ℕ). cells_of f.cells (packed (row_widths f) (x ++ zeros_of f))) (record-in img p lp)
        ∙ ap (λ (x : List ℕ). cells_of f.cells (packed (row_widths f) x)) (row-whole c (all-at _ places spares p lp))
        ∙ cells-back (row_widths f) f.cells w.full c (part-cells img (1 + f.cells * p) f.cells cells) (length_part img (1 + f.cells * p) f.cells (piece-in p lp))

    head-again : head_field img 0 ≡ f.number → head_field img 2 ≡ 0 → head_image f (head_field img 1) ≡ part img 0 1
    unfolding head_image head_field
    head-again form zeros =
        let xs : List ℕ = unpacked head_widths (row_of (part img 0 1)) in
        ap (λ (x : List ℕ). cells_of 1 (packed head_widths x)) (three f.number xs (unpacked-length head_widths (row_of (part img 0 1)) ∙ head-many) form zeros)
        ∙ cells-back head_widths 1 head-sum (part img 0 1) (part-cells img 0 1 cells) (length_part img 0 1 (omega arith))

    pub image-again : head_field img 0 ≡ f.number → head_field img 2 ≡ 0 → image_of f (tables_from f img) ≡ img
    unfolding image_of tables_from part
    image-again form zeros =
        let t : List ℕ = tables_from f img in
        let rs : joined (tab places (record_image f t)) ≡ part img 1 (f.cells * places) =
        ap joined (tab-cong places (record_part f img) (record_image f t) piece-again) ∙ pieces-part img 1 f.cells places in
        (λ j. head-again form zeros j ++ rs j) ∙ sym (take-add 1 (f.cells * places) img) ∙ take_all (1 + f.cells * places) img (omega (arith, mul_comm f.cells places))
