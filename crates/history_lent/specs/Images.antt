-- Save and load: s, t and i are the cells of the buffers store, tables and of images and lists, l has the numbers of cells lent of each. Assumes nothing.
use Rattle.std.specs.Prelude.{ℕ, ◌+◌, Bool, cond, List, ltb, eqb, length, take, Option}
use Rattle.cells.specs.Outcomes.{save_out, load_out}
use Rattle.history_calls.specs.declared.Reply.TheVariants.{Bad}
use Rattle.history_calls.specs.Told.{reply_of}
use Rattle.history_buffers.specs.Numbers.{on_one}
use Rattle.history_buffers.specs.Buffers.{lent_of}
use Rattle.history_lent.specs.Rooms.{image_buffer, last_image, others_length, first_image, image_start, other_at, with_other, before_rest, Lending, lending}

-- "save to, load from image buffer I (0 to 3)", with ns, nt and n cells lent of store, tables and image k
abbrev pub saved_to : ℕ → ℕ → ℕ → ℕ → List ℕ → List ℕ → List ℕ → Lending
saved_to ns nt n k s t i =
    let o = save_out (take ns s) (take nt t) (other_at (image_start k) n i) in
    lending (reply_of o.answer) s t (with_other (image_start k) n i o.after.image)

abbrev pub loaded_from : ℕ → ℕ → ℕ → ℕ → List ℕ → List ℕ → List ℕ → Lending
loaded_from ns nt n k s t i =
    let o = load_out (take ns s) (take nt t) (other_at (image_start k) n i) in
    lending (reply_of o.answer) s (before_rest nt t o.after.tables) i

unfoldable pub image_call : List ℕ → ℕ → Bool → List ℕ → List ℕ → List ℕ → Lending
image_call l k saves s t i =
    let ns = lent_of l 0 (length s) in
    let nt = lent_of l 1 (length t) in
    let n = lent_of l (first_image + k) image_buffer in
    cond (ltb last_image k) (lending Bad s t i)
    (cond (eqb (length i) others_length) (cond saves (saved_to ns nt n k s t i) (loaded_from ns nt n k s t i)) (lending Bad s t i))

-- a number that is no buffer's, or that is missing, is a bad line
unfoldable pub image_line : List ℕ → Option ℕ → Bool → List ℕ → List ℕ → List ℕ → Lending
image_line l found saves s t i = on_one (λ k. image_call l k saves s t i) (lending Bad s t i) found
