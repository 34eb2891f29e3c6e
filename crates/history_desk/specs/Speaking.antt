-- What the code that reads a line uses of its meaning, where cells are lent from 0 on. Assumes nothing.
use Rattle.std.specs.Prelude.{ℕ, ◌+◌, ◌-◌, ◌≤◌, ◌<◌, ◌≡◌, refl, List, ◌++◌, length, get_or, take, Option, Some, None}
use Rattle.std.proofs.Math.Path.{sym, ap}
use Rattle.std.proofs.Common.{◌∙◌, arith}
use Rattle.std.proofs.Math.Bool.{true, false}
use Rattle.std.proofs.Math.Nat.{sub-zero}
use borrow.Author.Tests.{le-leb, lt-leb, lt-ltb, le-ltb, eq-eqb, ne_eqb}
use Rattle.std.proofs.Math.ListN.{drop}
use Rattle.history_words.specs.declared.Numbers.{Numbers}
use Rattle.history_words.specs.Words.{word_end, part, numbers_at}
use Rattle.history_lines.specs.declared.OfBuffer.{OfBuffer}
use Rattle.history_lines.specs.declared.OfLent.{OfLent}
use Rattle.history_lines.specs.declared.OfLent.TheVariants as of_lent
use Rattle.history_lines.specs.declared.Buffer.{Buffer}
use Rattle.history_lines.specs.declared.Buffer.TheVariants as buffer
use Rattle.history_lines.specs.Spelling.{found}
use Rattle.history_lines.specs.Buffers.{buffer_words, buffer_names, lent_words}
use Rattle.cells.specs.Outcomes.{lent}
use Rattle.history_calls.specs.declared.Reply.{Reply}
use Rattle.history_calls.specs.declared.Reply.TheVariants.{Bad, Nothing}
use Rattle.history_calls.specs.Calls.{call_in}
use Rattle.history_calls.specs.Told.{Told, told, told_of}
use Rattle.history_buffers.specs.declared.Answered.{Answered}
use Rattle.history_buffers.specs.Numbers.{one_number}
use Rattle.history_buffers.specs.Buffers.{answering, lent_of, Tested, testing, test_of}
use Rattle.history_lent.specs.Rooms.{image_buffer, list_buffer, last_image, last_list, others_length, first_image, first_list, image_start, list_start, lending}
use Rattle.history_lent.specs.Images.{image_line}
use Rattle.history_lent.specs.Lists.{run_line}
use Rattle.history_lent.specs.Moves.{moving, move_line}
use Rattle.history_desk.specs.Lent.{with-known, saves-with, loads-with, writes-with, nexts-with, ups-with, downs-with}
use Rattle.history_desk.specs.Desk.{lent_call, Out, out, call_with, call_by, call_line, other_test, image_test, list_test, on_buffer, test_line, line_from, spoken_out, line_out}

module _ (l s t : List ℕ) where
  -- ---- a call on what is lent of store and tables

  module _ (ns nt : ℕ) (es : ns ≡ lent_of l 0 (length s)) (et : nt ≡ lent_of l 1 (length t)) where
    of-store : ns - 0 ≡ lent_of l 0 (length s)
    of-store = sub-zero ns ∙ es

    of-tables : nt - 0 ≡ lent_of l 1 (length t)
    of-tables = sub-zero nt ∙ et

    pub call-lent : (line s' t' : List ℕ) (r : Reply) → told r (lent s' t') ≡ told_of (call_in line) (take (ns - 0) s) (take (nt - 0) t)
        → told r (lent (s' ++ drop (ns - 0) s) (t' ++ drop (nt - 0) t)) ≡ lent_call l line s t
    unfolding lent_call told
    call-lent line s' t' r e =
        ap (λ (o : Told). told o.reply (lent (o.cells.store ++ drop (ns - 0) s) (o.cells.tables ++ drop (nt - 0) t))) e
        ∙ (λ j.
        let o = told_of (call_in line) (take (of-store j) s) (take (of-tables j) t) in
        told o.reply (lent (o.cells.store ++ drop (of-store j) s) (o.cells.tables ++ drop (of-tables j) t)))

  module _ (i line : List ℕ) (at : ℕ) where
    -- ---- a call, by its first word

    pub call-read : (x : Option OfLent) (y : Out) → x ≡ found lent_words (part 0 at line) → y ≡ call_by x l line at s t i → y ≡ call_line l line at s t i
    unfolding call_line
    call-read x y e r = r ∙ ap (λ z. call_by z l line at s t i) e

    pub lent-known : (w k : OfLent) (y : Out) → w ≡ k → y ≡ call_by (Some k) l line at s t i → y ≡ call_by (Some w) l line at s t i
    lent-known = with-known l s t i (numbers_at line at)

    pub numbers-read : (w : OfLent) (x : Option Numbers) (y : Out) → x ≡ numbers_at line at → y ≡ call_with w l x s t i → y ≡ call_with w l (numbers_at line at) s t i
    numbers-read w x y e r = r ∙ ap (λ z. call_with w l z s t i) e

    module _ (ns : Option Numbers) (en : ns ≡ numbers_at line at) (r : Reply) (s' t' i' : List ℕ) where
      module _ (x : Option ℕ) (ex : x ≡ one_number ns) where
        pub saves-line : lending r s' t' i' ≡ image_line l x true s t i → out (answering r l) s' t' i' ≡ call_by (Some of_lent.Save) l line at s t i
        saves-line p = numbers-read of_lent.Save ns _ en (saves-with l s t i ns r s' t' i' x ex p)

        pub loads-line : lending r s' t' i' ≡ image_line l x false s t i → out (answering r l) s' t' i' ≡ call_by (Some of_lent.Load) l line at s t i
        loads-line p = numbers-read of_lent.Load ns _ en (loads-with l s t i ns r s' t' i' x ex p)

      pub writes_line : lending r s' t' i' ≡ run_line l ns true s t i → out (answering r l) s' t' i' ≡ call_by (Some of_lent.Writes) l line at s t i
      writes_line p = numbers-read of_lent.Writes ns _ en (writes-with l s t i ns r s' t' i' p)

      pub nexts-line : lending r s' t' i' ≡ run_line l ns false s t i → out (answering r l) s' t' i' ≡ call_by (Some of_lent.Nexts) l line at s t i
      nexts-line p = numbers-read of_lent.Nexts ns _ en (nexts-with l s t i ns r s' t' i' p)

    module _ (ns : Option Numbers) (en : ns ≡ numbers_at line at) (r : Reply) (i' : List ℕ) where
      pub ups-line : moving r i' ≡ move_line l ns true i → out (answering r l) s t i' ≡ call_by (Some of_lent.Up) l line at s t i
      ups-line p = numbers-read of_lent.Up ns _ en (ups-with l s t i ns r i' p)

      pub downs-line : moving r i' ≡ move_line l ns false i → out (answering r l) s t i' ≡ call_by (Some of_lent.Down) l line at s t i
      downs-line p = numbers-read of_lent.Down ns _ en (downs-with l s t i ns r i' p)

    pub calls-line : (r : Reply) (s' t' : List ℕ) → told r (lent s' t') ≡ lent_call l line s t → out (answering r l) s' t' i ≡ call_by None l line at s t i
    unfolding told
    calls-line r s' t' p = ap (λ (y : Told). out (answering y.reply l) y.cells.store y.cells.tables i) p

-- ---- a line for tests

module _ (l : List ℕ) (w : Option OfBuffer) (ns : Option Numbers) (i : List ℕ) where
  module _ (from size k : ℕ) where
    pub no-others : (length i ≡ others_length → ⊥) → testing (answering Bad l) i ≡ other_test w from size k ns l i
    unfolding other_test
    no-others n = simp (ne_eqb (length i) others_length n)

    size_is : from + size - from ≡ size
    size_is = omega arith

    pub other-there : (r : Answered) (cells : List ℕ) → length i ≡ others_length → testing r cells ≡ test_of w (take (from + size - from) (drop from i)) l k ns
        → testing r (take from i ++ (cells ++ drop (from + size - from) (drop from i))) ≡ other_test w from size k ns l i
    unfolding other_test
    other-there r cells n e =
        ap (λ (x : Tested). testing x.answered (take from i ++ (x.cells ++ drop (from + size - from) (drop from i)))) e
        ∙ (λ j. let x = test_of w (take (size_is j) (drop from i)) l k ns in testing x.answered (take from i ++ (x.cells ++ drop (size_is j) (drop from i))))
        ∙ sym (simp (eq-eqb (length i) others_length n))

  module _ (k : ℕ) where
    pub no-image : last_image < k → testing (answering Bad l) i ≡ image_test w k ns l i
    unfolding image_test
    no-image h = simp (lt-ltb last_image k h)

    pub image-there : (y : Tested) → k ≤ last_image → y ≡ other_test w (image_start k) image_buffer (first_image + k) ns l i → y ≡ image_test w k ns l i
    unfolding image_test
    image-there y h e = e ∙ sym (simp (le-ltb last_image k h))

    pub no-list : last_list < k → testing (answering Bad l) i ≡ list_test w k ns l i
    unfolding list_test
    no-list h = simp (lt-ltb last_list k h)

    pub list-there : (y : Tested) → k ≤ last_list → y ≡ other_test w (list_start k) list_buffer (first_list + k) ns l i → y ≡ list_test w k ns l i
    unfolding list_test
    list-there y h e = e ∙ sym (simp (le-ltb last_list k h))

module _ (l s t i : List ℕ) where
  module _ (w : Option OfBuffer) (ns : Option Numbers) where
    pub buffer-known : (b c : Option Buffer) (y : Out) → b ≡ c → y ≡ on_buffer w c ns l s t i → y ≡ on_buffer w b ns l s t i
    buffer-known b c y q r = r ∙ sym (ap (λ x. on_buffer w x ns l s t i) q)

    pub on_store : (r : Answered) (s' : List ℕ) → testing r s' ≡ test_of w s l 0 ns → out r s' t i ≡ on_buffer w (Some buffer.Store) ns l s t i
    on_store r s' e = ap (λ (x : Tested). out x.answered x.cells t i) e

    pub on-tables : (r : Answered) (t' : List ℕ) → testing r t' ≡ test_of w t l 1 ns → out r s t' i ≡ on_buffer w (Some buffer.Tables) ns l s t i
    on-tables r t' e = ap (λ (x : Tested). out x.answered s x.cells i) e

    pub on-image : (k : ℕ) (r : Answered) (i' : List ℕ) → testing r i' ≡ image_test w k ns l i → out r s t i' ≡ on_buffer w (Some (buffer.Image k)) ns l s t i
    on-image k r i' e = ap (λ (x : Tested). out x.answered s t x.cells) e

    pub on_list : (k : ℕ) (r : Answered) (i' : List ℕ) → testing r i' ≡ list_test w k ns l i → out r s t i' ≡ on_buffer w (Some (buffer.List k)) ns l s t i
    on_list k r i' e = ap (λ (x : Tested). out x.answered s t x.cells) e

    pub on-nothing : out (answering Bad l) s t i ≡ on_buffer w None ns l s t i
    on-nothing = refl

  module _ (w : Option OfBuffer) (line : List ℕ) (at : ℕ) where
    pub no_buffer : length line ≤ at → out (answering Bad l) s t i ≡ test_line w line at l s t i
    unfolding test_line
    no_buffer h = simp (le-leb (length line) at h)

    pub buffer-read : (to : ℕ) (b : Option Buffer) (ns : Option Numbers) (y : Out) → at < length line → to ≡ word_end line (at + 1) → b ≡ found buffer_names (part (at + 1) to line)
        → ns ≡ numbers_at line to → y ≡ on_buffer w b ns l s t i → y ≡ test_line w line at l s t i
    unfolding test_line
    buffer-read to b ns y h e p q r =
        r
        ∙ (λ j. on_buffer w (p j) (q j) l s t i)
        ∙ ap (λ n. on_buffer w (found buffer_names (part (at + 1) n line)) (numbers_at line n) l s t i) e
        ∙ sym (simp (lt-leb (length line) at h))

  -- ---- any line

  module _ (line : List ℕ) where
    pub word_read : (at : ℕ) (x : Option OfBuffer) (y : Out) → at ≡ word_end line 0 → x ≡ found buffer_words (part 0 at line) → y ≡ line_from x line at l s t i → y ≡ spoken_out line l s t i
    unfolding spoken_out
    word_read at x y a e r =
        r
        ∙ ap (λ z. line_from z line at l s t i) e
        ∙ ap (λ n. line_from (found buffer_words (part 0 n line)) line n l s t i) a

    pub empty-line : length line ≡ 0 → out (answering Nothing l) s t i ≡ line_out line l s t i
    unfolding line_out
    empty-line h = simp (eq-eqb (length line) 0 h)

    pub comment-line : (length line ≡ 0 → ⊥) → get_or line 0 0 ≡ 35 → out (answering Nothing l) s t i ≡ line_out line l s t i
    unfolding line_out
    comment-line n h = simp (ne_eqb (length line) 0 n, eq-eqb (get_or line 0 0) 35 h)

    pub spoken-line : (y : Out) → (length line ≡ 0 → ⊥) → (get_or line 0 0 ≡ 35 → ⊥) → y ≡ spoken_out line l s t i → y ≡ line_out line l s t i
    unfolding line_out
    spoken-line y n m r = r ∙ sym (simp (ne_eqb (length line) 0 n, ne_eqb (get_or line 0 0) 35 m))

pub ruleset lent-calls = (call-lent)

pub ruleset lent_lines = (saves-line, loads-line, writes_line, nexts-line, ups-line, downs-line, lent-known)

pub ruleset call-lines = (calls-line, numbers-read, call-read)

pub ruleset other-tests = (no-others, other-there, no-image, image-there, no-list, list-there)

pub ruleset buffer_lines = (on_store, on-tables, on-image, on_list, on-nothing, buffer-known)

pub ruleset test-lines = (no_buffer, buffer-read)

pub ruleset spoken-lines = (word_read, empty-line, comment-line, spoken-line)
