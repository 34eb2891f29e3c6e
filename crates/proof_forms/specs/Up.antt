-- From form 1 to form 2: every sound image moves, and a load takes what was moved. Assumes nothing.
use Rattle.std.specs.Prelude.{◌*◌, ◌≡◌, true, length}
use Rattle.std.proofs.Common.{ap, ◌∙◌, le_refl, le_trans}
use Rattle.std.proofs.Math.Option.{some}
use Rattle.combine.specs.Verdict.{done}
use Rattle.combine.specs.Outcome.{outcome_of}
use Rattle.placing.specs.Sizes.{Cells, segment_cells, greatest_end}
use Rattle.tables.specs.Laws.Sound.{ranged-of, fits-store}
use Rattle.image.specs.Image.{form1, form2, served, imageb, tables_from}
use Rattle.image.specs.Reformed.{up_out}
use Rattle.image.specs.Laws.Formed.{formed1, formed2}
use Rattle.cells.specs.Says.{house_of}
use Rattle.cells.specs.Outcomes.{lent}
use Rattle.image_code.specs.Fits.{sound-reaches}
use Rattle.model.specs.View.{view_house}
use Rattle.demands.specs.Forms.{AlwaysUp, UpThenLoad}
use Rattle.proof_images.specs.Facts.{imageb-facts, judged-by-tables}
use Rattle.proof_images.specs.Done.{load-done, sound-files}
use Rattle.proof_forms.specs.Beside.{sound-beside}
use Rattle.proof_forms.specs.Moved.{moved, done-means}
use Rattle.proof_forms.specs.Said.{same-said}

-- form 2 reaches every begin and end of a file
pub always-up : AlwaysUp
always-up img buffer n ok lb =
    let t = tables_from form1 img in
    let ranged = ranged-of (segment_cells * n) t (imageb-facts form1 (segment_cells * n) img ok).sound in
    moved form1 form2 img buffer n (record { sound = ok; long = lb; reaches = sound-reaches t ranged form2 (le_refl greatest_end) })

pub up-then-load : UpThenLoad
up-then-load x img buffer n d lt room =
    let s = x.store in
    let t = tables_from form1 img in
    let new = (up_out img buffer n).after in
    let same = same-said form1 form2 formed1 formed2 img buffer n d in
    let old = imageb-facts form1 (segment_cells * n) img (done-means form1 form2 img buffer n d).sound in
    let sound = sound-beside (segment_cells * n) (length s) t old.sound (le_trans (fits-store (segment_cells * n) t old.sound) room) in
    let ok : imageb served (length s) new ≡ true = same.1 (length s) ∙ judged-by-tables form1 (segment_cells * n) img old (length s) ∙ sound in
    let loads = load-done s x.tables new lt ok ∙ ap (λ (c : Cells). outcome_of (done 0) (lent s c)) same.0 in
    (loads, sound-files s new ok ∙ ap (λ (c : Cells). some (view_house s (house_of c))) same.0)
