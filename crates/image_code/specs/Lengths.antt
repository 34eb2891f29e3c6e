-- How many cells the head and a record have in an image of a form, and a record in the tables. Assumes nothing.
use Rattle.std.specs.Prelude.{ℕ, ◌+◌, ◌≡◌, List, length}
use Rattle.std.proofs.Common.{◌∙◌, arith, length-take-le}
use Rattle.packing_rows.specs.Cells.{length-cells_of}
use Rattle.packing_rows.specs.Pack.{unpacked-length}
use Rattle.packing.specs.Packing.{unpacked, row_of}
use Rattle.placing.specs.Sizes.{record_length}
use Rattle.image.specs.Image.{Form, row_widths, head_image, packed_record, record_image, unpacked_record, record_from, record_part}
use Rattle.image.specs.Laws.Formed.{Formed, row-many}

pub head-length : (f : Form) (n : ℕ) → length (head_image f n) ≡ 1
unfolding head_image
head-length f n = length-cells_of 1 _

pub record-image-length : (f : Form) (t : List ℕ) (p : ℕ) → length (record_image f t p) ≡ f.cells
unfolding record_image packed_record
record-image-length f t p = length-cells_of f.cells _

-- the fields of a record, and the zeros at its end
pub row-long : (f : Form) → Formed f → (c : List ℕ) → length (unpacked (row_widths f) (row_of c)) ≡ record_length + length f.spare
row-long f w c = unpacked-length (row_widths f) _ ∙ row-many f w

pub unpacked-record-length : (f : Form) → Formed f → (c : List ℕ) → length (unpacked_record f c) ≡ record_length
unfolding unpacked_record
unpacked-record-length f w c = length-take-le record_length (unpacked (row_widths f) (row_of c)) (omega (arith, row-long f w c))

pub record-from-length : (f : Form) → Formed f → (img : List ℕ) (p : ℕ) → length (record_from f img p) ≡ record_length
unfolding record_from
record-from-length f w img p = unpacked-record-length f w (record_part f img p)
