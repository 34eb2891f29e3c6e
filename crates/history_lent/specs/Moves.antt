-- An image moved from one form to the other: x has the cells of images and lists, l the numbers of cells lent of each buffer. Store and tables are not
-- lent. Assumes nothing.
use Rattle.std.specs.Prelude.{ℕ, ◌+◌, Bool, cond, List, ltb, eqb, length, Option, Some, None}
use Rattle.combine.specs.Outcome.{Outcome}
use Rattle.image.specs.Reformed.{up_out, down_out}
use Rattle.history_calls.specs.declared.Reply.{Reply}
use Rattle.history_calls.specs.declared.Reply.TheVariants.{Bad}
use Rattle.history_calls.specs.Told.{reply_of}
use Rattle.history_words.specs.declared.Numbers.{Numbers}
use Rattle.history_buffers.specs.Buffers.{lent_of}
use Rattle.history_lent.specs.Rooms.{image_buffer, last_image, others_length, first_image, image_start, other_at, with_other}

-- the reply, and the cells of images and lists
pub record Moving : Type 0 where
  pub reply : Reply
  pub others : List ℕ

unfoldable pub moving : Reply → List ℕ → Moving
moving r x = record { reply = r; others = x }

-- "up: image I (form 1) to image J (form 2)"; "down: form 2 to form 1"
unfoldable pub moved_by : (climbs : Bool) (image buffer : List ℕ) (segments : ℕ) → Outcome (List ℕ)
moved_by climbs image buffer segments = cond climbs (up_out image buffer segments) (down_out image buffer segments)

-- with n and m cells lent of images i and j: those of image j may change, and nothing else
abbrev pub moved_into : (n m : ℕ) (climbs : Bool) (i j segments : ℕ) (others : List ℕ) → Moving
moved_into n m climbs i j segments x =
    let o = moved_by climbs (other_at (image_start i) n x) (other_at (image_start j) m x) segments in
    moving (reply_of o.answer) (with_other (image_start j) m x o.after)

-- "A line that names one buffer twice where two are lent is a bad line"; so is one that names a buffer that is not there
unfoldable pub move_call : (lengths : List ℕ) (climbs : Bool) (i j segments : ℕ) (others : List ℕ) → Moving
move_call l climbs i j segments x =
    let n = lent_of l (first_image + i) image_buffer in
    let m = lent_of l (first_image + j) image_buffer in
    cond (ltb last_image i) (moving Bad x)
    (cond (ltb last_image j) (moving Bad x)
    (cond (eqb i j) (moving Bad x)
    (cond (eqb (length x) others_length) (moved_into n m climbs i j segments x) (moving Bad x))))

-- too many numbers or too few, or a word that is no number, are a bad line
abbrev pub move_line : (lengths : List ℕ) → Option Numbers → (climbs : Bool) (others : List ℕ) → Moving
move_line l (Some (Numbers.Three i j segments)) climbs x = move_call l climbs i j segments x
move_line l (Some Numbers.Zero) climbs x = moving Bad x
move_line l (Some (Numbers.One a)) climbs x = moving Bad x
move_line l (Some (Numbers.Two a b)) climbs x = moving Bad x
move_line l (Some (Numbers.Four a b c d)) climbs x = moving Bad x
move_line l None climbs x = moving Bad x
