-- Saved and at once loaded, and loaded and at once saved: the two statements of the crate `demands`. Assumes nothing.
use Rattle.std.specs.Prelude.{ℕ, ◌≡◌, true, List, length}
use Rattle.std.proofs.Common.{sym, ap, ◌∙◌}
use Rattle.combine.specs.Verdict.{done}
use Rattle.combine.specs.Outcome.{Outcome, outcome_of}
use Rattle.placing.specs.Sizes.{tables_length}
use Rattle.rules.specs.House.{closed_down}
use Rattle.tables.specs.Sound.{soundb}
use Rattle.tables.specs.Laws.Sound.{ranged-of}
use Rattle.image.specs.Image.{served, image_length, image_of, tables_from, imageb}
use Rattle.image.specs.Laws.Formed.{formed-served}
use Rattle.cells.specs.Outcomes.{Lent, lent, load_out, Saved, saved, save_out}
use Rattle.cells.specs.Says.{house_of}
use Rattle.packing_rows.specs.Cells.{Cells}
use Rattle.segments.specs.Free.{SegmentHouse}
use Rattle.model.specs.Model.{model}
use Rattle.model.specs.View.{view_house, view}
use Rattle.demands.specs.History.{view_on}
use Rattle.demands.specs.Demands.{SaveThenLoad, LoadThenSave}
use Rattle.proof_images.specs.Closed.{closed, closed-says}
use Rattle.proof_images.specs.Images.{image-again}
use Rattle.proof_images.specs.Facts.{imageb-facts}
use Rattle.proof_images.specs.Done.{save-done, load-done, saved-again, saved-sound}

-- users see the same permanent files, and nothing open
closed-view : (s t : List ℕ) → length t ≡ tables_length → view s (closed t) ≡ model (length s) (closed_down (view_house s (house_of t)))
unfolding view
closed-view s t long = ap (λ (h : SegmentHouse). model (length s) (view_house s h)) (closed-says t long)

loaded-again : (s t buffer tables : List ℕ) → soundb (length s) t ≡ true → length buffer ≡ image_length served → length tables ≡ tables_length
    → load_out s tables (save_out s t buffer).after.image ≡ outcome_of (done 0) (lent s (closed t))
loaded-again s t buffer tables ok lb lt =
    ap (λ (o : Outcome Saved). load_out s tables o.after.image) (save-done s t buffer ok lb)
    ∙ load-done s tables (image_of served t) lt (saved-sound (length s) t ok)
    ∙ ap (λ (x : List ℕ). outcome_of (done 0) (lent s x)) (saved-again (length s) t ok)

pub save-then-load : SaveThenLoad
unfolding closed view
save-then-load x buffer tables ok lb lt =
    let s = x.store in
    let t = x.tables in
    let e = loaded-again s t buffer tables ok lb lt in
    (e, ap (λ (o : Outcome Lent). view_on o.after) e ∙ closed-view s t (ranged-of (length s) t ok).0)

saved-image : (s img buffer : List ℕ) → Cells img → imageb served (length s) img ≡ true → length buffer ≡ image_length served
    → save_out s (tables_from served img) buffer ≡ outcome_of (done 0) (saved s (tables_from served img) img)
saved-image s img buffer cells ok lb =
    let f = imageb-facts served (length s) img ok in
    save-done s (tables_from served img) buffer f.sound lb
    ∙ ap (λ (i : List ℕ). outcome_of (done 0) (saved s (tables_from served img) i)) (image-again served formed-served img cells f.long f.spares f.form f.zeros)

pub load-then-save : LoadThenSave
load-then-save x img buffer cells lt ok lb =
    let s = x.store in
    let u = tables_from served img in
    let e : load_out s x.tables img ≡ outcome_of (done 0) (lent s u) = load-done s x.tables img lt ok in
    ap (λ (o : Outcome Lent). save_out o.after.store o.after.tables buffer) e
    ∙ saved-image s img buffer cells ok lb
    ∙ ap (λ (o : Outcome Lent). outcome_of (done 0) (saved o.after.store o.after.tables img)) (sym e)
