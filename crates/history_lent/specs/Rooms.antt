-- Where images and lists lie, in one slice: "image0 to image3 (1,024 cells each)"; "Two list buffers, list0 and list1, 2,112 cells each". s and t are
-- the cells of the buffers store and tables, i those of images and lists. Assumes nothing.
use Rattle.std.specs.Prelude.{ℕ, ◌+◌, ◌*◌, List, ◌++◌, take, drop}
use Rattle.history_calls.specs.declared.Reply.{Reply}

abbrev pub image_buffer : ℕ
image_buffer = 1024

abbrev pub list_buffer : ℕ
list_buffer = 2112

abbrev pub last_image : ℕ
last_image = 3

abbrev pub last_list : ℕ
last_list = 1

abbrev pub lists_start : ℕ
lists_start = 4 * image_buffer

abbrev pub others_length : ℕ
others_length = lists_start + 2 * list_buffer

-- which of all buffers is the first image, and the first list
abbrev pub first_image : ℕ
first_image = 2

abbrev pub first_list : ℕ
first_list = 6

abbrev pub image_start : ℕ → ℕ
image_start k = image_buffer * k

abbrev pub list_start : ℕ → ℕ
list_start k = lists_start + list_buffer * k

-- n cells from a place on, and all with others in their place
abbrev pub other_at : (from n : ℕ) (others : List ℕ) → List ℕ
other_at a n i = take n (drop a i)

abbrev pub with_other : (from n : ℕ) (others cells : List ℕ) → List ℕ
with_other a n i cells = take a i ++ (cells ++ drop n (drop a i))

-- "the first N cells of the buffer are lent", those after them stay: the cells that a call left, before those that were not lent to it
abbrev pub before_rest : ℕ → List ℕ → List ℕ → List ℕ
before_rest n cells left = left ++ drop n cells

-- the reply, and all cells
pub record Lending : Type 0 where
  pub reply : Reply
  pub store : List ℕ
  pub tables : List ℕ
  pub others : List ℕ

unfoldable pub lending : Reply → List ℕ → List ℕ → List ℕ → Lending
lending r s t i = record { reply = r; store = s; tables = t; others = i }
