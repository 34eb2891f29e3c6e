-- Document 02, P7: what is to be proved of an image that is moved from one form to another. Assumes nothing.
use Rattle.std.specs.Prelude.{ℕ, ◌*◌, ◌≤◌, ◌<◌, ◌≡◌, true, length}
use Rattle.std.proofs.Math.Option.{some}
use Rattle.combine.specs.Verdict.{done, refused, is_done}
use Rattle.combine.specs.Outcome.{Outcome, outcome_of}
use Rattle.placing.specs.Sizes.{Cells, places, segment_cells, tables_length}
use Rattle.tables.specs.Layout.{record_at, segments_in}
use Rattle.image.specs.Image.{Form, form1, form2, served, image_length, image_of, imageb, tables_from}
use Rattle.image.specs.Reformed.{reformed_out, up_out, down_out}
use Rattle.cells.specs.Says.{house_of}
use Rattle.cells.specs.Outcomes.{Lent, lent, load_out, save_out}
use Rattle.model.specs.View.{view_house, files_in}
use Rattle.demands.specs.Demands.{Sound, AreCells}

-- an image that is sound in the form f for a store of n segments
abbrev pub SoundImage : Form → (segments : ℕ) (image : Cells) → Type 0
SoundImage f n img = imageb f (segment_cells * n) img ≡ true

-- "every begin and end is at most" so much
abbrev pub AtMost : ℕ → (tables : Cells) → Type 0
AtMost n t = (p : ℕ) → p < places → ((record_at t p).begin.0 ≤ n) × ((record_at t p).end.0 ≤ n)

-- ---- what moves

-- "A sound form 1 image always moves up."
abbrev pub AlwaysUp : Type 0
AlwaysUp =
    (img buffer : Cells) (n : ℕ) → SoundImage form1 n img → length buffer ≡ image_length form2
    → up_out img buffer n ≡ outcome_of (done 0) (image_of form2 (tables_from form1 img))

-- a move of the tables t down into the buffer is done "exactly if every begin and end is at most 16,777,215, else refusal 24"
abbrev pub DownByRule : (tables buffer : Cells) → Outcome Cells → Type 0
DownByRule t buffer o =
    (AtMost 16777215 t → o ≡ outcome_of (done 0) (image_of form1 t)) × ((AtMost 16777215 t → ⊥) → o ≡ outcome_of (refused 24) buffer)

-- "A sound form 2 image moves down exactly if .."
abbrev pub DownExactly : Type 0
DownExactly =
    (img buffer : Cells) (n : ℕ) → SoundImage form2 n img → length buffer ≡ image_length form1
    → DownByRule (tables_from form2 img) buffer (down_out img buffer n)

-- so whatever save writes, where the number of segments is given as the tables have it or greater: done, it is what form 1 has for the tables
abbrev pub SavedDown : Type 0
SavedDown =
    (x : Lent) (image buffer : Cells) (n : ℕ) → Sound x → length image ≡ image_length served → length buffer ≡ image_length form1 → segments_in x.tables ≤ n
    → DownByRule x.tables buffer (down_out (save_out x.store x.tables image).after.image buffer n)

-- ---- there and back

-- "Up then down gives the same cells"
abbrev pub UpThenDown : Type 0
UpThenDown =
    (img buffer again : Cells) (n : ℕ) → AreCells img → SoundImage form1 n img → length buffer ≡ image_length form2 → length again ≡ image_length form1
    → down_out (up_out img buffer n).after again n ≡ outcome_of (done 0) img

-- "; down, where done, then up too."
abbrev pub DownThenUp : Type 0
DownThenUp =
    (img buffer again : Cells) (n : ℕ) → AreCells img → is_done (down_out img buffer n).answer ≡ true → length again ≡ image_length form2
    → up_out (down_out img buffer n).after again n ≡ outcome_of (done 0) img

-- ---- what is moved

-- from any form to any other, it says the same, and is sound beside a store of any length if what it was moved from is
abbrev pub SameSaid : (from to : Form) → Type 0
SameSaid f g =
    (img buffer : Cells) (n : ℕ) → is_done (reformed_out f g img buffer n).answer ≡ true
    → let moved = (reformed_out f g img buffer n).after in
    (tables_from g moved ≡ tables_from f img) × ((cells : ℕ) → imageb g cells moved ≡ imageb f cells img)

-- moved up for a store of n segments, it is taken by a load over one that has as many or more: the records and files that the old image says
abbrev pub UpThenLoad : Type 0
UpThenLoad =
    (x : Lent) (img buffer : Cells) (n : ℕ) → is_done (up_out img buffer n).answer ≡ true → length x.tables ≡ tables_length → segment_cells * n ≤ length x.store
    → let moved = (up_out img buffer n).after in
    let t = tables_from form1 img in
    (load_out x.store x.tables moved ≡ outcome_of (done 0) (lent x.store t)) × (files_in x.store moved ≡ some (view_house x.store (house_of t)))
