-- Every line of a history: s and t are the cells of the buffers store and tables, i those of images and lists, l has the numbers of cells lent of
-- each. Assumes nothing.
use Rattle.std.specs.Prelude.{ℕ, ◌+◌, true, false, cond, List, leb, ltb, eqb, length, get_or, take, Option, Some, None}
use Rattle.cells.specs.Outcomes.{lent}
use Rattle.history_calls.specs.declared.Reply.TheVariants.{Bad, Nothing}
use Rattle.history_calls.specs.Calls.{call_in}
use Rattle.history_calls.specs.Told.{Told, told, told_of}
use Rattle.history_words.specs.declared.Numbers.{Numbers}
use Rattle.history_words.specs.Words.{word_end, part, numbers_at}
use Rattle.history_lines.specs.declared.OfBuffer.{OfBuffer}
use Rattle.history_lines.specs.declared.OfLent.{OfLent}
use Rattle.history_lines.specs.declared.OfLent.TheVariants as lending
use Rattle.history_lines.specs.declared.Buffer.{Buffer}
use Rattle.history_lines.specs.declared.Buffer.TheVariants as buffer
use Rattle.history_lines.specs.Spelling.{found}
use Rattle.history_lines.specs.Buffers.{buffer_words, buffer_names, lent_words}
use Rattle.history_buffers.specs.declared.Answered.{Answered}
use Rattle.history_buffers.specs.Numbers.{one_number}
use Rattle.history_buffers.specs.Buffers.{answering, lent_of, Tested, testing, test_of}
use Rattle.history_lent.specs.Rooms.{image_buffer, list_buffer, last_image, last_list, others_length, first_image, first_list, image_start, list_start, other_at, with_other, before_rest, Lending}
use Rattle.history_lent.specs.Images.{image_line}
use Rattle.history_lent.specs.Lists.{run_line}
use Rattle.history_lent.specs.Moves.{Moving, move_line}

-- ---- calls

unfoldable pub lent_call : List ℕ → List ℕ → List ℕ → List ℕ → Told
lent_call l line s t =
    let ns = lent_of l 0 (length s) in
    let nt = lent_of l 1 (length t) in
    let o = told_of (call_in line) (take ns s) (take nt t) in
    told o.reply (lent (before_rest ns s o.cells.store) (before_rest nt t o.cells.tables))

-- what is answered, and all cells afterwards
pub record Out : Type 0 where
  pub answered : Answered
  pub store : List ℕ
  pub tables : List ℕ
  pub others : List ℕ

unfoldable pub out : Answered → List ℕ → List ℕ → List ℕ → Out
out a s t i = record { answered = a; store = s; tables = t; others = i }

-- a call that is lent one buffer more
abbrev pub lent_out : List ℕ → Lending → Out
lent_out l x = out (answering x.reply l) x.store x.tables x.others

-- one that is lent images alone: store and tables stay as they were
abbrev pub moved_out : List ℕ → List ℕ → List ℕ → Moving → Out
moved_out l s t x = out (answering x.reply l) s t x.others

-- a call that is lent images or lists, by the numbers of its line
abbrev pub call_with : OfLent → List ℕ → Option Numbers → List ℕ → List ℕ → List ℕ → Out
call_with lending.Save l ns s t i = lent_out l (image_line l (one_number ns) true s t i)
call_with lending.Load l ns s t i = lent_out l (image_line l (one_number ns) false s t i)
call_with lending.Writes l ns s t i = lent_out l (run_line l ns true s t i)
call_with lending.Nexts l ns s t i = lent_out l (run_line l ns false s t i)
call_with lending.Up l ns s t i = moved_out l s t (move_line l ns true i)
call_with lending.Down l ns s t i = moved_out l s t (move_line l ns false i)

-- a line that asks for a call, by its first word, which ends at a place: one of those, or any other
abbrev pub call_by : Option OfLent → List ℕ → List ℕ → ℕ → List ℕ → List ℕ → List ℕ → Out
call_by (Some w) l line at s t i = call_with w l (numbers_at line at) s t i
call_by None l line at s t i =
    let called = lent_call l line s t in
    out (answering called.reply l) called.cells.store called.cells.tables i

unfoldable pub call_line : List ℕ → List ℕ → ℕ → List ℕ → List ℕ → List ℕ → Out
call_line l line at s t i = call_by (found lent_words (part 0 at line)) l line at s t i

-- ---- "Lines that are no calls, for tests"

-- buffer k of all, which lies among the others from a place on
unfoldable pub other_test : Option OfBuffer → (from size k : ℕ) → Option Numbers → List ℕ → List ℕ → Tested
other_test w from size k ns l i =
    let x = test_of w (other_at from size i) l k ns in
    cond (eqb (length i) others_length) (testing x.answered (with_other from size i x.cells)) (testing (answering Bad l) i)

unfoldable pub image_test : Option OfBuffer → ℕ → Option Numbers → List ℕ → List ℕ → Tested
image_test w k ns l i = cond (ltb last_image k) (testing (answering Bad l) i) (other_test w (image_start k) image_buffer (first_image + k) ns l i)

unfoldable pub list_test : Option OfBuffer → ℕ → Option Numbers → List ℕ → List ℕ → Tested
list_test w k ns l i = cond (ltb last_list k) (testing (answering Bad l) i) (other_test w (list_start k) list_buffer (first_list + k) ns l i)

abbrev pub on_buffer : Option OfBuffer → Option Buffer → Option Numbers → List ℕ → List ℕ → List ℕ → List ℕ → Out
on_buffer w (Some buffer.Store) ns l s t i =
    let x = test_of w s l 0 ns in
    out x.answered x.cells t i
on_buffer w (Some buffer.Tables) ns l s t i =
    let x = test_of w t l 1 ns in
    out x.answered s x.cells i
on_buffer w (Some (buffer.Image k)) ns l s t i =
    let x = image_test w k ns l i in
    out x.answered s t x.cells
on_buffer w (Some (buffer.List k)) ns l s t i =
    let x = list_test w k ns l i in
    out x.answered s t x.cells
on_buffer w None ns l s t i = out (answering Bad l) s t i

-- the buffer is named after the space at a place, and the numbers are behind it
unfoldable pub test_line : Option OfBuffer → List ℕ → ℕ → List ℕ → List ℕ → List ℕ → List ℕ → Out
test_line w line at l s t i =
    let to = word_end line (at + 1) in
    cond (leb (length line) at) (out (answering Bad l) s t i) (on_buffer w (found buffer_names (part (at + 1) to line)) (numbers_at line to) l s t i)

-- ---- any line

-- by its first word, which ends at a place: one for tests, or any other
abbrev pub line_from : Option OfBuffer → List ℕ → ℕ → List ℕ → List ℕ → List ℕ → List ℕ → Out
line_from (Some w) line at l s t i = test_line (Some w) line at l s t i
line_from None line at l s t i = call_line l line at s t i

unfoldable pub spoken_out : List ℕ → List ℕ → List ℕ → List ℕ → List ℕ → Out
spoken_out line l s t i =
    let at = word_end line 0 in
    line_from (found buffer_words (part 0 at line)) line at l s t i

-- "An empty line and one that begins with # are passed over and answered by nothing."
unfoldable pub line_out : List ℕ → List ℕ → List ℕ → List ℕ → List ℕ → Out
line_out line l s t i =
    cond (eqb (length line) 0) (out (answering Nothing l) s t i) (cond (eqb (get_or line 0 0) 35) (out (answering Nothing l) s t i) (spoken_out line l s t i))
