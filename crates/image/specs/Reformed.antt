-- Document 02, P7: "From the old image to the new and back.": an image of one form in another. Assumes nothing.
use Rattle.std.specs.Prelude.{ℕ, ◌*◌, Bool, not, ◌&&◌, eqb, leb, length}
use Rattle.combine.specs.Below.{all_below}
use Rattle.combine.specs.Verdict.{done, refuse◌when◌else◌}
use Rattle.combine.specs.Outcome.{Outcome, settle}
use Rattle.placing.specs.Sizes.{Cells, places, segment_cells}
use Rattle.tables.specs.Layout.{record_at}
use Rattle.image.specs.Image.{Form, form1, form2, image_length, image_of, imageb, tables_from}

-- "every begin and end is at most 16,777,215", the greatest of form 1; so for any form
unfoldable pub reachesb : Form → (tables : Cells) → Bool
reachesb g t = all_below places (λ p. leb (record_at t p).begin.0 g.greatest && leb (record_at t p).end.0 g.greatest)

-- the answer, and the lent buffer afterwards: "A sound form 1 image always moves up. A sound form 2 image moves down exactly if every begin and end
-- is at most 16,777,215, else refusal 24. .. A lent image of the wrong length, either one, is 22, and 22 comes before 24. Refusals write nothing.
-- Judge soundness with the store's segment count given as a number."
unfoldable pub reformed_out : (from to : Form) (image buffer : Cells) (segments : ℕ) → Outcome Cells
reformed_out f g img buffer n =
    settle buffer
    (refuse 22 when not (imageb f (segment_cells * n) img) else
    refuse 22 when not (eqb (length buffer) (image_length g)) else
    refuse 24 when not (reachesb g (tables_from f img)) else
    done (0, image_of g (tables_from f img)))

-- "We need a move from 897 lent cells to 961 and one back."
abbrev pub up_out : (image buffer : Cells) (segments : ℕ) → Outcome Cells
up_out = reformed_out form1 form2

abbrev pub down_out : (image buffer : Cells) (segments : ℕ) → Outcome Cells
down_out = reformed_out form2 form1
