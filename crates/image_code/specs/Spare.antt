-- The zeros at a record's end: in form 2 the low half of its last cell, in form 1 none. Assumes nothing.
use Rattle.std.specs.Prelude.{ℕ, ◌+◌, ◌*◌, ◌%◌, ◌<◌, ◌≡◌, refl, true, List, eqb, length, get_or, take}
use Rattle.std.proofs.Common.{sym, ap, ◌∙◌, arith, div-one, lit<, take_all}
use Rattle.std.proofs.Math.Bool.{true-and}
use Rattle.combine.specs.Below.{all_below}
use Rattle.combine.specs.Laws.Below.{all-make}
use Rattle.combine.specs.Laws.Parts.{length_part, get_d_part}
use Rattle.packing.specs.Packing.{field, row_of, sum, unpacked}
use Rattle.packing_rows.specs.Longer.{row-suc}
use Rattle.packing_rows.specs.Pack.{unpacked-at}
use Rattle.placing.specs.Sizes.{places}
use Rattle.image.specs.Image.{form1, form2, image_length, record_widths, row_widths, record_part, spareb, sparesb}

-- the last of the numbers that 15 cells hold
spare-number : (c : List ℕ) → length c ≡ 15 → get_or (unpacked (row_widths form2) (row_of c)) 50 0 ≡ get_or c 14 0 % 65536
unfolding field sum record_widths
spare-number c l =
    let row : row_of c ≡ row_of (take 14 c) * 4294967296 + get_or c 14 0 = ap row_of (sym (take_all 15 c (omega arith))) ∙ row-suc c 14 (omega arith) in
    unpacked-at (row_widths form2) (row_of c) 50 (lit< tt) ∙ ap (λ (n : ℕ). n % 65536) (div-one (row_of c)) ∙ omega arith

spare-cell : (c : List ℕ) → length c ≡ 15 → spareb form2 c ≡ eqb (get_or c 14 0 % 65536) 0
unfolding spareb all_below
spare-cell c l = true-and _ ∙ ap (λ (n : ℕ). eqb n 0) (spare-number c l)

-- of the record at place p of an image
pub spare-in : (img : List ℕ) (p : ℕ) → length img ≡ image_length form2 → p < places → spareb form2 (record_part form2 img p) ≡ eqb (get_or img (15 + 15 * p) 0 % 65536) 0
spare-in img p l lp =
    let e : 1 + 15 * p + 14 ≡ 15 + 15 * p = omega arith in
    spare-cell (record_part form2 img p) (length_part img (1 + 15 * p) 15 (omega arith))
    ∙ ap (λ (n : ℕ). eqb (n % 65536) 0) (get_d_part img (1 + 15 * p) 15 14 (lit< tt) ∙ ap (λ (n : ℕ). get_or img n 0) e)

pub none-spare : (img : List ℕ) → true ≡ sparesb form1 img
unfolding sparesb spareb all_below
none-spare img = sym (all-make _ places (λ p l. refl))
