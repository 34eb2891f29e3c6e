-- What is moved says the same, and is as sound. Assumes nothing.
use Rattle.std.specs.Prelude.{ℕ, ◌*◌, ◌≡◌}
use Rattle.std.proofs.Common.{sym, ap, ◌∙◌}
use Rattle.placing.specs.Sizes.{Cells, segment_cells}
use Rattle.tables.specs.Sound.{soundb}
use Rattle.image.specs.Image.{Form, image_of, imageb, tables_from}
use Rattle.image.specs.Reformed.{reformed_out}
use Rattle.image.specs.Laws.Formed.{Formed}
use Rattle.demands.specs.Forms.{SameSaid}
use Rattle.proof_images.specs.Facts.{ImageFacts, imageb-facts, judged-by-tables, written-again, written-facts}
use Rattle.proof_forms.specs.Tables.{closed-already}
use Rattle.proof_forms.specs.Moved.{Movable, moved, done-means}

module _ (f g : Form) (wf : Formed f) (wg : Formed g) where
  module _ (img buffer : Cells) (n : ℕ) (m : Movable f g img buffer n) where
    facts : ImageFacts f (segment_cells * n) img
    facts = imageb-facts f (segment_cells * n) img m.sound

    pub same_tables : tables_from g (image_of g (tables_from f img)) ≡ tables_from f img
    same_tables = written-again (segment_cells * n) (tables_from f img) facts.sound g wg m.reaches ∙ closed-already f wf img

    pub same-judged : (cells : ℕ) → imageb g cells (image_of g (tables_from f img)) ≡ imageb f cells img
    same-judged cells =
        judged-by-tables g (segment_cells * n) (image_of g (tables_from f img)) (written-facts (segment_cells * n) (tables_from f img) facts.sound g wg m.reaches) cells
        ∙ ap (soundb cells) same_tables ∙ sym (judged-by-tables f (segment_cells * n) img facts cells)

  pub same-said : SameSaid f g
  same-said img buffer n d =
      let m = done-means f g img buffer n d in
      let e : (reformed_out f g img buffer n).after ≡ image_of g (tables_from f img) = λ i. (moved f g img buffer n m i).after in
      (ap (tables_from g) e ∙ same_tables img buffer n m, λ cells. ap (imageb g cells) e ∙ same-judged img buffer n m cells)
