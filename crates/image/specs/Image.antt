-- "The catalogue image". A record in the tables has the image's fields in the image's order, one a cell. Assumes nothing.
use Rattle.std.specs.Prelude.{ℕ, ◌+◌, ◌*◌, Bool, List, [], ◌∷◌, ◌++◌, eqb, length, get_or, take, replicate}
use Rattle.combine.specs.Below.{all_below}
use Rattle.combine.specs.Rows.{all_of}
use Rattle.combine.specs.Lists.{tab, part, joined}
use Rattle.packing.specs.Packing.{packed, unpacked, row_of, cells_of}
use Rattle.placing.specs.Sizes.{Cells, places, most_held, greatest_end, name_symbols, record_length}
use Rattle.tables.specs.Layout.{record_base, segments_in, none_open}
use Rattle.tables.specs.Sound.{soundb}

-- ---- forms of image

-- the number in cell 0, the widths of a record's fields, those of the zeros at its end, its cells, and the greatest begin and end that it can hold
pub record Form : Type 0 where
  pub number : ℕ
  pub widths : List ℕ
  pub spare : List ℕ
  pub cells : ℕ
  pub greatest : ℕ

-- "Then 64 records of 448 bits: used 1, name 12 x 6, owner 3, private 1, species 3, begin 24, end 24, then 32 segment numbers of 10 bits by
-- rising stretch.": with begin and end of so many bits
unfoldable pub record_widths : (ends : ℕ) → List ℕ
record_widths w = 1 ∷ (replicate name_symbols 6 ++ (3 ∷ 1 ∷ 3 ∷ w ∷ w ∷ replicate most_held 10))

abbrev pub form1 : Form
form1 = record { number = 1; widths = record_widths 24; spare = []; cells = 14; greatest = 16777215 }

-- document 02, P6: "Image form 2 has begin and end of 32 bits each and 16 zero bits at a record's end: 480 bits, 961 cells in all, form number 2
-- in cell 0."
abbrev pub form2 : Form
form2 = record { number = 2; widths = record_widths 32; spare = 16 ∷ []; cells = 15; greatest = greatest_end }

-- "Save writes form 2. Load takes a 961-cell form 2 image only"
abbrev pub served : Form
served = form2

-- cell 0, and the records: 897 cells of form 1, 961 of form 2
abbrev pub image_length : Form → ℕ
image_length f = 1 + places * f.cells

-- "Cell 0: form 8 bits (1), number of segments 11 bits, 13 zero bits."
unfoldable pub head_widths : List ℕ
head_widths = 8 ∷ 11 ∷ 13 ∷ []

-- a record's fields, and the zeros at its end
abbrev pub row_widths : Form → List ℕ
row_widths f = f.widths ++ f.spare

-- ---- from the tables t, "bit-packed, most significant first": "Saving writes the records only, whatever is open."

unfoldable pub head_image : Form → (segments : ℕ) → Cells
head_image f n = cells_of 1 (packed head_widths (f.number ∷ n ∷ 0 ∷ []))

-- the cells of the image that a record's fields make
unfoldable pub packed_record : Form → (fields : Cells) → Cells
packed_record f c = cells_of f.cells (packed (row_widths f) (c ++ replicate (length f.spare) 0))

unfoldable pub record_image : Form → (tables : Cells) (place : ℕ) → Cells
record_image f t p = packed_record f (part t (record_base p) record_length)

unfoldable pub image_of : Form → (tables : Cells) → Cells
image_of f t = head_image f (segments_in t) ++ joined (tab places (record_image f t))

-- ---- to the tables: nothing is open

-- field k of cell 0
unfoldable pub head_field : (image : Cells) (k : ℕ) → ℕ
head_field img k = get_or (unpacked head_widths (row_of (part img 0 1))) k 0

-- the cells of the image that are a record's
abbrev pub record_part : Form → (image : Cells) (place : ℕ) → Cells
record_part f img p = part img (1 + f.cells * p) f.cells

-- the fields that a record's cells of the image make
unfoldable pub unpacked_record : Form → (cells : Cells) → Cells
unpacked_record f c = take record_length (unpacked (row_widths f) (row_of c))

unfoldable pub record_from : Form → (image : Cells) (place : ℕ) → Cells
record_from f img p = unpacked_record f (record_part f img p)

unfoldable pub tables_from : Form → (image : Cells) → Cells
tables_from f img = none_open (head_field img 1 ∷ joined (tab places (record_from f img)))

-- ---- "Sound: form 1; 1 to 1,024 segments, fitting the store; names not empty, symbols 0 to 35 and then only 63; species 0 to 5; 1 <= begin
-- <= end; at most 32 segments held; segment numbers in range and listed once; every bit called zero here is zero; the two name rules.":
-- beside a store of so many cells, the image is of the form, the 13 bits of cell 0 are zero and those at each record's end, and the tables that
-- it gives are sound

-- of a record's cells of the image
unfoldable pub spareb : Form → (cells : Cells) → Bool
spareb f c = all_below (length f.spare) (λ k. eqb (get_or (unpacked (row_widths f) (row_of c)) (record_length + k) 0) 0)

unfoldable pub sparesb : Form → (image : Cells) → Bool
sparesb f img = all_below places (λ p. spareb f (record_part f img p))

unfoldable pub imageb : Form → (cells : ℕ) (image : Cells) → Bool
imageb f cells img =
    all_of
    (eqb (length img) (image_length f)
    ∷ eqb (head_field img 0) f.number
    ∷ eqb (head_field img 2) 0
    ∷ sparesb f img
    ∷ soundb cells (tables_from f img)
    ∷ [])
