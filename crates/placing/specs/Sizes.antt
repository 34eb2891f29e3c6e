-- "Sizes". Assumes nothing.
use Rattle.std.specs.Prelude.{ℕ, ◌+◌, ◌-◌, ◌*◌, ◌/◌, min, List, [], ◌∷◌, get_or}

-- "Users 0 to 7. Each user has entries 0 to 3"
abbrev pub greatest_user : ℕ
greatest_user = 7

abbrev pub greatest_entry : ℕ
greatest_entry = 3

-- "the caller names the entry, and it is looked up in that user's row only": of 32 entries, the one of user u that the caller names e
abbrev pub row_entries : ℕ
row_entries = greatest_entry + 1

abbrev pub entries : ℕ
entries = (greatest_user + 1) * row_entries

abbrev pub entry_of : (user entry : ℕ) → ℕ
entry_of u e = row_entries * u + e

abbrev pub user_of : (entry : ℕ) → ℕ
user_of i = i / row_entries

-- "Catalogue: 64 places."
abbrev pub places : ℕ
places = 64

-- "A cell is a 32-bit number": a row of cells, as of the store, the tables and an image
abbrev pub Cells : Type 0
Cells = List ℕ

-- "a block is 16 cells; a segment is 4 blocks, 64 cells."
abbrev pub segment_cells : ℕ
segment_cells = 64

-- "store under 64 cells" is refused: one segment at least
abbrev pub least_store : ℕ
least_store = segment_cells

-- "A fresh start gives it floor(length / 64) segments, at most 1,024"
abbrev pub most_segments : ℕ
most_segments = 1024

abbrev pub fresh_segments : (cells : ℕ) → ℕ
fresh_segments cells = min most_segments (cells / segment_cells)

-- "A file holds at most 32 segments."
abbrev pub most_held : ℕ
most_held = 32

-- "The begin and end values are 1 to 16,777,215."; document 02, P6: "Raise the begin and end limit to 4,294,967,295."
abbrev pub greatest_end : ℕ
greatest_end = 4294967295

-- "Species 0 to 5 have elements of 1, 2, 4, 8, 16 and 32 bits, so E = 2048, 1024, 512, 256, 128 and 64 elements in a segment."; document 02, P5:
-- "Add species 6: signed temperatures .. in 16 bits, .. E = 128."
abbrev pub greatest_species : ℕ
greatest_species = 6

abbrev pub signed_species : ℕ
signed_species = 6

unfoldable pub width_of : (species : ℕ) → ℕ
width_of s = get_or (1 ∷ 2 ∷ 4 ∷ 8 ∷ 16 ∷ 32 ∷ 16 ∷ []) s 0

unfoldable pub elements_of : (species : ℕ) → ℕ
elements_of s = get_or (2048 ∷ 1024 ∷ 512 ∷ 256 ∷ 128 ∷ 64 ∷ 128 ∷ []) s 0

-- 64 at the least
abbrev pub least_elements : ℕ
least_elements = 64

-- "Names have at most 12 symbols."
abbrev pub name_symbols : ℕ
name_symbols = 12

-- "Pointer 0 is the begin, 1 the end, 2 the work pointer; 3 to 7 are own pointers."
abbrev pub first_own_pointer : ℕ
first_own_pointer = 3

abbrev pub greatest_pointer : ℕ
greatest_pointer = 7

-- how many there are of all, and of own ones
abbrev pub all_pointers : ℕ
all_pointers = greatest_pointer + 1

abbrev pub own_pointers : ℕ
own_pointers = all_pointers - first_own_pointer

-- ---- "The tables are a second lent slice; docs/ fixes its one length": the number of segments, a record for each place, an opening for each
-- entry

-- a record: used, name, owner, private, species, begin, end, segments
abbrev pub record_length : ℕ
record_length = 1 + name_symbols + 5 + most_held

-- an opening: open, place, permit, species, pointers, name, segments
abbrev pub opening_length : ℕ
opening_length = 4 + all_pointers + name_symbols + most_held

-- the first cells of the first record and of the first opening
abbrev pub records_start : ℕ
records_start = 1

abbrev pub openings_start : ℕ
openings_start = records_start + places * record_length

abbrev pub tables_length : ℕ
tables_length = openings_start + entries * opening_length

-- the lists of segments, one for each record and one for each opening
abbrev pub lists : ℕ
lists = places + entries
