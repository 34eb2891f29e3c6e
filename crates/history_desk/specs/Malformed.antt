-- A line whose numbers cannot be read (malformed, too large or more than four), or whose buffer is not there: it is bad, and changes nothing. Assumes nothing.
use Rattle.std.specs.Prelude.{ℕ, ◌+◌, ◌<◌, ◌≡◌, refl, eqb, ltb, List, ◌++◌, length, take, Option, Some, None}
use Rattle.std.proofs.Math.Path.{sym, ap}
use Rattle.std.proofs.Common.{◌∙◌, take-append-drop}
use Rattle.std.proofs.lemmas.Bool.{cond_both}
use Rattle.std.proofs.Math.ListN.{drop}
use Rattle.history_words.specs.Words.{word_end, part, numbers_at}
use Rattle.history_lines.specs.declared.OfBuffer.{OfBuffer}
use Rattle.history_lines.specs.declared.OfBuffer.TheVariants as of_buffer
use Rattle.history_lines.specs.declared.OfLent.{OfLent}
use Rattle.history_lines.specs.declared.OfLent.TheVariants as of_lent
use Rattle.history_lines.specs.declared.Buffer.{Buffer}
use Rattle.history_lines.specs.declared.Buffer.TheVariants as buffer
use Rattle.history_lines.specs.Spelling.{found}
use Rattle.history_lines.specs.Buffers.{buffer_names}
use Rattle.history_calls.specs.declared.Reply.TheVariants.{Bad}
use Rattle.history_buffers.specs.Buffers.{answering, lend_line, sum_line, peek_line, poke_line, Tested, testing, test_of}
use Rattle.history_lent.specs.Rooms.{image_buffer, list_buffer, last_image, last_list, others_length, first_image, first_list, image_start, list_start, other_at, with_other, lending}
use Rattle.history_lent.specs.Images.{image_line}
use Rattle.history_lent.specs.Moves.{moving}
use Rattle.history_desk.specs.Desk.{out, call_with, other_test, image_test, list_test, on_buffer, test_line}
use Rattle.history_desk.specs.Speaking.{no_buffer, buffer-read}

-- ---- a line for tests

no-test : (w : Option OfBuffer) (l : List ℕ) (k : ℕ) (cells : List ℕ) → testing (answering Bad l) cells ≡ test_of w cells l k None
unfolding sum_line peek_line poke_line lend_line
no-test None l k cells = refl
no-test (Some of_buffer.Sum) l k cells = refl
no-test (Some of_buffer.Peek) l k cells = refl
no-test (Some of_buffer.Poke) l k cells = refl
no-test (Some of_buffer.Lend) l k cells = refl

module _ (l i : List ℕ) (w : Option OfBuffer) where
  -- the line is bad, and the cells stay as they were
  abbrev Unchanged : Tested → Type 0
  Unchanged x = testing (answering Bad l) i ≡ x

  put-back : (from size : ℕ) → with_other from size i (other_at from size i) ≡ i
  put-back from size = ap (λ x. take from i ++ x) (take-append-drop size (drop from i)) ∙ take-append-drop from i

  no-other-test : (from size k : ℕ) → testing (answering Bad l) i ≡ other_test w from size k None l i
  unfolding other_test
  no-other-test from size k =
      let back = ap (testing (answering Bad l)) (sym (put-back from size)) in
      let bad = ap (λ (x : Tested). testing x.answered (with_other from size i x.cells)) (no-test w l k (other_at from size i)) in
      cond_both (eqb (length i) others_length) _ _ Unchanged (λ e. back ∙ bad) (λ e. refl)

  no-image-test : (k : ℕ) → testing (answering Bad l) i ≡ image_test w k None l i
  unfolding image_test
  no-image-test k = cond_both (ltb last_image k) _ _ Unchanged (λ e. refl) (λ e. no-other-test (image_start k) image_buffer (first_image + k))

  no-list-test : (k : ℕ) → testing (answering Bad l) i ≡ list_test w k None l i
  unfolding list_test
  no-list-test k = cond_both (ltb last_list k) _ _ Unchanged (λ e. refl) (λ e. no-other-test (list_start k) list_buffer (first_list + k))

module _ (l s t i : List ℕ) where
  pub none-on : (w : Option OfBuffer) (b : Option Buffer) → out (answering Bad l) s t i ≡ on_buffer w b None l s t i
  none-on w None = refl
  none-on w (Some buffer.Store) = ap (λ (x : Tested). out x.answered x.cells t i) (no-test w l 0 s)
  none-on w (Some buffer.Tables) = ap (λ (x : Tested). out x.answered s x.cells i) (no-test w l 1 t)
  none-on w (Some (buffer.Image k)) = ap (λ (x : Tested). out x.answered s t x.cells) (no-image-test l i w k)
  none-on w (Some (buffer.List k)) = ap (λ (x : Tested). out x.answered s t x.cells) (no-list-test l i w k)

  module _ (w : Option OfBuffer) (line : List ℕ) (at to : ℕ) (h : at < length line) (e : to ≡ word_end line (at + 1)) where
    pub no-name : None ≡ found buffer_names (part (at + 1) to line) → out (answering Bad l) s t i ≡ test_line w line at l s t i
    no-name p = buffer-read l s t i w line at to None (numbers_at line to) _ h e p refl refl

    pub no-numbers : None ≡ numbers_at line to → out (answering Bad l) s t i ≡ test_line w line at l s t i
    no-numbers q =
        let b = found buffer_names (part (at + 1) to line) in
        buffer-read l s t i w line at to b None _ h e refl q (none-on w b)

  -- ---- a call that is lent images or lists

  pub no-call : (w : OfLent) → out (answering Bad l) s t i ≡ call_with w l None s t i
  unfolding image_line lending moving
  no-call of_lent.Save = refl
  no-call of_lent.Load = refl
  no-call of_lent.Writes = refl
  no-call of_lent.Nexts = refl
  no-call of_lent.Up = refl
  no-call of_lent.Down = refl

pub ruleset buffers-read = (no_buffer, no-name, no-numbers, buffer-read)

pub ruleset malformed = (no-call, none-on, no-name, no-numbers)
