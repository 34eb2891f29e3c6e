-- The words of the lines that are no calls, the names of buffers, and the words of the calls that are lent images or lists, spelt as bytes. Assumes nothing.
use Rattle.std.specs.Prelude.{ℕ, List, [], ◌∷◌}
use Rattle.history_lines.specs.declared.OfBuffer.{OfBuffer}
use Rattle.history_lines.specs.declared.Buffer.{Buffer}
use Rattle.history_lines.specs.declared.OfLent.{OfLent}

abbrev pub buffer_words : List (List ℕ × OfBuffer)
buffer_words =
    -- lend
    (108 ∷ 101 ∷ 110 ∷ 100 ∷ [], OfBuffer.Lend)
    ∷  -- peek
    (112 ∷ 101 ∷ 101 ∷ 107 ∷ [], OfBuffer.Peek)
    ∷  -- poke
    (112 ∷ 111 ∷ 107 ∷ 101 ∷ [], OfBuffer.Poke)
    ∷  -- sum
    (115 ∷ 117 ∷ 109 ∷ [], OfBuffer.Sum)
    ∷ []

-- "Buffers are named store, tables, image0 to image3", and "list0 and list1"
abbrev pub buffer_names : List (List ℕ × Buffer)
buffer_names =
    -- store
    (115 ∷ 116 ∷ 111 ∷ 114 ∷ 101 ∷ [], Buffer.Store)
    ∷  -- tables
    (116 ∷ 97 ∷ 98 ∷ 108 ∷ 101 ∷ 115 ∷ [], Buffer.Tables)
    ∷  -- image0
    (105 ∷ 109 ∷ 97 ∷ 103 ∷ 101 ∷ 48 ∷ [], Buffer.Image 0)
    ∷  -- image1
    (105 ∷ 109 ∷ 97 ∷ 103 ∷ 101 ∷ 49 ∷ [], Buffer.Image 1)
    ∷  -- image2
    (105 ∷ 109 ∷ 97 ∷ 103 ∷ 101 ∷ 50 ∷ [], Buffer.Image 2)
    ∷  -- image3
    (105 ∷ 109 ∷ 97 ∷ 103 ∷ 101 ∷ 51 ∷ [], Buffer.Image 3)
    ∷  -- list0
    (108 ∷ 105 ∷ 115 ∷ 116 ∷ 48 ∷ [], Buffer.List 0)
    ∷  -- list1
    (108 ∷ 105 ∷ 115 ∷ 116 ∷ 49 ∷ [], Buffer.List 1)
    ∷ []

-- the calls that are lent images or lists
abbrev pub lent_words : List (List ℕ × OfLent)
lent_words =
    -- save
    (115 ∷ 97 ∷ 118 ∷ 101 ∷ [], OfLent.Save)
    ∷  -- load
    (108 ∷ 111 ∷ 97 ∷ 100 ∷ [], OfLent.Load)
    ∷  -- writes
    (119 ∷ 114 ∷ 105 ∷ 116 ∷ 101 ∷ 115 ∷ [], OfLent.Writes)
    ∷  -- nexts
    (110 ∷ 101 ∷ 120 ∷ 116 ∷ 115 ∷ [], OfLent.Nexts)
    ∷  -- up
    (117 ∷ 112 ∷ [], OfLent.Up)
    ∷  -- down
    (100 ∷ 111 ∷ 119 ∷ 110 ∷ [], OfLent.Down)
    ∷ []
