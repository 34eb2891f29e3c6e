-- Lines that are no calls, on the cells of buffer k; l has the numbers of cells lent of each buffer. Assumes nothing.
use Rattle.std.specs.Prelude.{ℕ, ◌+◌, ◌*◌, ◌%◌, cond, List, [], ◌∷◌, leb, ltb, length, get_or, set, take, Option, Some, None}
use Rattle.history_words.specs.declared.Numbers.{Numbers}
use Rattle.history_lines.specs.declared.OfBuffer.{OfBuffer}
use Rattle.history_lines.specs.declared.OfBuffer.TheVariants as word
use Rattle.history_calls.specs.declared.Reply.{Reply}
use Rattle.history_calls.specs.declared.Reply.TheVariants.{Lent, Cell, Sum, Bad}
use Rattle.history_buffers.specs.declared.Answered.{Answered}
use Rattle.history_buffers.specs.Numbers.{no_number, one_number, two_numbers, on_one, on_two}

abbrev pub answering : Reply → List ℕ → Answered
answering r l = record { reply = r; lengths = l }

-- ---- what is lent: of store, tables, image 0 to 3, list 0 and 1, in this order

abbrev pub last_buffer : ℕ
last_buffer = 7

unfoldable pub within_of : ℕ → ℕ → ℕ
within_of n most = cond (ltb most n) most n

-- of buffer k, which has so many cells
unfoldable pub lent_of : List ℕ → ℕ → ℕ → ℕ
lent_of l k most = cond (ltb last_buffer k) 0 (within_of (get_or l k 0) most)

-- "from now on the first N cells of the buffer are lent"
unfoldable pub lended : List ℕ → ℕ → ℕ → ℕ → Answered
lended l k most n = cond (ltb most n) (answering Bad l) (cond (ltb last_buffer k) (answering Bad l) (answering (Lent n) (set l k n)))

unfoldable pub lend_line : List ℕ → ℕ → ℕ → Option Numbers → Answered
lend_line l k most ns = on_one (lended l k most) (answering Bad l) (one_number ns)

-- ---- cells

-- "h starts at 0, for each cell c, h = (h * 31 + c) mod 4294967291"
unfoldable pub sum_of : ℕ → List ℕ → ℕ
sum_of h [] = h
sum_of h (c ∷ cells) = sum_of ((h * 31 + c) % 4294967291) cells

-- "a sum over the lent cells"
unfoldable pub sum_line : List ℕ → List ℕ → ℕ → Option Numbers → Reply
sum_line cells l k ns = cond (no_number ns) (Sum (sum_of 0 (take (lent_of l k (length cells)) cells))) Bad

-- "reads cell I of the buffer (of all its cells, lent or not)"; "a cell that is not there" is a bad line
unfoldable pub peeked : List ℕ → ℕ → Reply
peeked cells i = cond (leb (length cells) i) Bad (Cell (get_or cells i 0))

unfoldable pub peek_line : List ℕ → Option Numbers → Reply
peek_line cells ns = on_one (peeked cells) Bad (one_number ns)

pub record Poked : Type 0 where
  pub reply : Reply
  pub cells : List ℕ

abbrev pub poking : Reply → List ℕ → Poked
poking r cells = record { reply = r; cells = cells }

-- "writes V there"
unfoldable pub poked : List ℕ → ℕ → ℕ → Poked
poked cells i v = cond (leb (length cells) i) (poking Bad cells) (poking (Cell v) (set cells i v))

unfoldable pub poke_line : List ℕ → Option Numbers → Poked
poke_line cells ns = on_two (poked cells) (poking Bad cells) (two_numbers ns)

-- ---- any of them

pub record Tested : Type 0 where
  pub answered : Answered
  pub cells : List ℕ

abbrev pub testing : Answered → List ℕ → Tested
testing a cells = record { answered = a; cells = cells }

abbrev pub test_of : Option OfBuffer → List ℕ → List ℕ → ℕ → Option Numbers → Tested
test_of (Some word.Sum) cells l k ns = testing (answering (sum_line cells l k ns) l) cells
test_of (Some word.Peek) cells l k ns = testing (answering (peek_line cells ns) l) cells
test_of (Some word.Poke) cells l k ns = testing (answering (poke_line cells ns).reply l) (poke_line cells ns).cells
test_of (Some word.Lend) cells l k ns = testing (lend_line l k (length cells) ns) cells
test_of None cells l k ns = testing (answering Bad l) cells
