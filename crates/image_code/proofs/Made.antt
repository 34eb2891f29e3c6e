-- The image is made, and the tables are made. Assumes nothing.
use Prim.Native.Nat.{ℕ, ◌-◌, ◌*◌}
use mathlib.Core.Path.{◌≡◌, sym, ap, ◌∙◌}
use mathlib.Core.List.{List, ◌∷◌, ◌++◌}
use native.Mathlib.Omega.{arith}
use borrow.Rule.Slice.PartMut.{put_mid, post_of, Post-is}
use lib.ListN.{length, get_or, take, drop, set, replicate, length-append, length-set, length-replicate, replicate-append-replicate}
use lib.Seq.{take_at, drop_at}
use Rattle.combine.specs.Lists.{joined, tab, part}
use Rattle.packing.specs.Packing.{unpacked, row_of}
use Rattle.placing.specs.Sizes.{places, openings_start, tables_length}
use Rattle.image_code.specs.Lengths.{head-length}
use Rattle.image.specs.Image.{Form, image_length, head_widths, head_image, record_image, image_of, head_field, record_from, tables_from}

pub image-made : (f : Form) (t x ys z : List ℕ) → ys ≡ head_image f (get_or t 0 0) → z ≡ take 1 (put_mid 0 1 x ys) ++ joined (tab places (record_image f t)) → z ≡ image_of f t
unfolding image_of
image-made f t x ys z e r =
    let records : List ℕ = joined (tab places (record_image f t)) in
    r ∙ ap (λ (k : List ℕ). take 1 (put_mid 0 1 x k) ++ records) e
    ∙ ap (λ (k : List ℕ). k ++ records) (take_at (head_image f (get_or t 0 0)) (post_of 0 1 x) 1 (head-length f (get_or t 0 0)))

-- zero behind its first cell
pub image-zeros : (f : Form) (x ys : List ℕ) (n : ℕ) → x ≡ replicate n 0 → n ≡ image_length f → length ys ≡ 1
    → (length (put_mid 0 1 x ys) ≡ image_length f) × (drop 1 (put_mid 0 1 x ys) ≡ replicate (places * f.cells) 0)
image-zeros f x ys n w e l =
    let rest : drop 1 (put_mid 0 1 x ys) ≡ replicate (places * f.cells) 0 =
    drop_at ys (post_of 0 1 x) 1 l ∙ Post-is 0 1 x (omega arith) ∙ ap (drop 1) (w ∙ ap (λ (k : ℕ). replicate k 0) e ∙ sym (replicate-append-replicate 1 (places * f.cells) 0))
    ∙ drop_at (replicate 1 0) (replicate (places * f.cells) 0) 1 (length-replicate {A = ℕ} 1 0) in
    let behind : length (post_of 0 1 x) ≡ places * f.cells = ap length (sym (drop_at ys (post_of 0 1 x) 1 l) ∙ rest) ∙ length-replicate {A = ℕ} (places * f.cells) 0 in
    (length-append ys (post_of 0 1 x) ∙ omega (arith, l, behind), rest)

-- the cells after the records, in tables that are zero from cell 1 on
zeros-after : drop {A = ℕ} (openings_start - 1) (replicate (tables_length - 1) 0) ≡ replicate (tables_length - openings_start) 0
zeros-after =
    let n : ℕ = openings_start - 1 in
    let m : ℕ = tables_length - openings_start in
    ap (drop {A = ℕ} n) (sym (replicate-append-replicate n m 0)) ∙ drop_at (replicate n 0) (replicate m 0) n (length-replicate {A = ℕ} n 0)

pub tables-made : (f : Form) (img h x z : List ℕ) → h ≡ unpacked head_widths (row_of (take 1 img)) → x ≡ replicate tables_length 0
    → z ≡ take 1 (set x 0 (get_or h 1 0)) ++ (joined (tab places (record_from f img)) ++ drop openings_start (set x 0 (get_or h 1 0))) → z ≡ tables_from f img
unfolding tables_from head_field part
tables-made f img h x z e w r =
    let records : List ℕ = joined (tab places (record_from f img)) in
    r ∙ (λ j. take 1 (set (w j) 0 (get_or (e j) 1 0)) ++ (records ++ drop openings_start (set (w j) 0 (get_or (e j) 1 0))))
    ∙ ap (λ (k : List ℕ). head_field img 1 ∷ (records ++ k)) zeros-after

-- zero behind their first cell
pub zeros-behind : (x : List ℕ) (n : ℕ) → x ≡ replicate tables_length 0 → (length (set x 0 n) ≡ tables_length) × (drop 1 (set x 0 n) ≡ replicate (tables_length - 1) 0)
zeros-behind x n w = (length-set x 0 n ∙ ap length w ∙ length-replicate {A = ℕ} tables_length 0, ap (λ (y : List ℕ). drop 1 (set y 0 n)) w)
