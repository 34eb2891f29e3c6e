-- There and back: a move that is done is undone by the move back. Assumes nothing.
use Rattle.std.specs.Prelude.{ℕ, ◌*◌, ◌≡◌, true, length}
use Rattle.std.proofs.Common.{ap, ◌∙◌}
use Rattle.combine.specs.Verdict.{done, is_done}
use Rattle.combine.specs.Outcome.{Outcome, outcome_of}
use Rattle.placing.specs.Sizes.{Cells, segment_cells}
use Rattle.image.specs.Image.{Form, form1, form2, image_length, image_of, tables_from}
use Rattle.image.specs.Reformed.{reachesb, reformed_out}
use Rattle.image.specs.Laws.Formed.{Formed, formed1, formed2}
use Rattle.demands.specs.Demands.{AreCells}
use Rattle.demands.specs.Forms.{UpThenDown, DownThenUp}
use Rattle.proof_images.specs.Images.{image-again}
use Rattle.proof_images.specs.Facts.{imageb-facts}
use Rattle.proof_forms.specs.Reach.{own-reach}
use Rattle.proof_forms.specs.Moved.{Movable, moved, done-means}
use Rattle.proof_forms.specs.Said.{same_tables, same-judged}
use Rattle.proof_forms.specs.Up.{always-up}

pub there_and_back : (f g : Form) → Formed f → Formed g → (img buffer again : Cells) (n : ℕ)
    → AreCells img → is_done (reformed_out f g img buffer n).answer ≡ true → length again ≡ image_length f
    → reformed_out g f (reformed_out f g img buffer n).after again n ≡ outcome_of (done 0) img
there_and_back f g wf wg img buffer again n cells d long =
    let m = done-means f g img buffer n d in
    let same = same_tables f g wf wg img buffer n m in
    let x = imageb-facts f (segment_cells * n) img m.sound in
    let back : Movable g f (image_of g (tables_from f img)) again n =
    record { sound = same-judged f g wf wg img buffer n m (segment_cells * n) ∙ m.sound; long = long; reaches = ap (reachesb f) same ∙ own-reach f wf img } in
    ap (λ (o : Outcome Cells). reformed_out g f o.after again n) (moved f g img buffer n m)
    ∙ moved g f (image_of g (tables_from f img)) again n back
    ∙ ap (λ (i : Cells). outcome_of (done 0) i) (ap (image_of f) same ∙ image-again f wf img cells x.long x.spares x.form x.zeros)

pub up-then-down : UpThenDown
up-then-down img buffer again n cells ok lb la =
    there_and_back form1 form2 formed1 formed2 img buffer again n cells (ap (λ (o : Outcome Cells). is_done o.answer) (always-up img buffer n ok lb)) la

pub down-then-up : DownThenUp
down-then-up img buffer again n cells d la = there_and_back form2 form1 formed2 formed1 img buffer again n cells d la
