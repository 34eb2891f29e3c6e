-- Whether an image is sound, by what the code tests. Assumes nothing.
use Prim.Native.Nat.{ℕ}
use mathlib.Core.Path.{◌≡◌, sym, ap, ◌∙◌}
use mathlib.Core.Bool.{Bool, true, false}
use mathlib.Core.List.{List}
use lib.ListN.{length, get_or}
use borrow.Author.Tests.{eq-eqb, ne_eqb}
use Rattle.combine.specs.Lists.{part}
use Rattle.combine.specs.Laws.Below.{bool-ext}
use Rattle.combine.specs.Laws.Rows.{one-bad, all-good, each_of}
use Rattle.packing.specs.Packing.{unpacked, row_of}
use Rattle.tables.specs.Sound.{soundb}
use Rattle.image.specs.Image.{Form, image_length, head_widths, head_field, tables_from, sparesb, imageb}

module _ (f : Form) (cells : ℕ) (img : List ℕ) where
  pub wrong-length : (length img ≡ image_length f → ⊥) → false ≡ imageb f cells img
  unfolding imageb
  wrong-length h = one-bad _ 0 (ne_eqb _ _ h)

  module _ (head : List ℕ) (read : head ≡ unpacked head_widths (row_of (part img 0 1))) where
    field : (k : ℕ) → get_or head k 0 ≡ head_field img k
    unfolding head_field
    field k = ap (λ (l : List ℕ). get_or l k 0) read

    pub other-form : (get_or head 0 0 ≡ f.number → ⊥) → false ≡ imageb f cells img
    unfolding imageb
    other-form h = one-bad _ 1 (ne_eqb _ _ (λ z. h (field 0 ∙ z)))

    pub not-zero : (get_or head 2 0 ≡ 0 → ⊥) → false ≡ imageb f cells img
    unfolding imageb
    not-zero h = one-bad _ 2 (ne_eqb _ _ (λ z. h (field 2 ∙ z)))

    pub spare-set : (r : Bool) → r ≡ sparesb f img → r ≡ false → false ≡ imageb f cells img
    unfolding imageb
    spare-set r e h = one-bad _ 3 (sym e ∙ h)

    pub by-tables : (r : Bool) (decoded : List ℕ) → decoded ≡ tables_from f img → length img ≡ image_length f → get_or head 0 0 ≡ f.number → get_or head 2 0 ≡ 0 → sparesb f img ≡ true
        → r ≡ soundb cells decoded → r ≡ imageb f cells img
    unfolding imageb
    by-tables r decoded made l n z p s =
        let same : r ≡ soundb cells (tables_from f img) = s ∙ ap (soundb cells) made in
        bool-ext r (imageb f cells img)
        (λ h. sym (all-good _ (eq-eqb _ _ l, (eq-eqb _ _ (sym (field 0) ∙ n), (eq-eqb _ _ (sym (field 2) ∙ z), (p, (sym same ∙ h, tt)))))))
        (λ h. same ∙ (each_of _ h).1.1.1.1.0)
