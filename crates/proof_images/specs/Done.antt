-- What a save and a load that are done leave. Assumes nothing.
use Rattle.std.specs.Prelude.{ℕ, ◌*◌, ◌≤◌, ◌≡◌, refl, true, List, length}
use Rattle.std.proofs.Common.{◌∙◌, le_refl, arith, eq-eqb, le-leb, leb-true}
use Rattle.std.proofs.Math.Option.{some}
use Rattle.combine.specs.Laws.Rows.{each_of}
use Rattle.combine.specs.Verdict.{done, refuse◌when◌else◌}
use Rattle.combine.specs.Outcome.{outcome_of, settle}
use Rattle.placing.specs.Sizes.{segment_cells, greatest_end, tables_length}
use Rattle.rules.specs.Gates.{start_gate, image_gate}
use Rattle.tables.specs.Layout.{segments_in}
use Rattle.tables.specs.Sound.{numberb, soundb}
use Rattle.tables.specs.Laws.Sound.{ranged-of}
use Rattle.image.specs.Image.{served, image_length, image_of, tables_from, imageb}
use Rattle.image.specs.Reformed.{reachesb}
use Rattle.image.specs.Laws.Formed.{formed-served}
use Rattle.cells.specs.Outcomes.{lent, load_out, saved, save_out}
use Rattle.cells.specs.Says.{house_of}
use Rattle.model.specs.View.{view_house, files_in}
use Rattle.image_code.specs.Fits.{sound-reaches}
use Rattle.proof_images.specs.Closed.{closed}
use Rattle.proof_images.specs.Facts.{imageb-facts, judged-by-tables, written-again, written-facts}

-- "A number fits a store of at least 64 times as many cells", and there is one segment at least
room : (cells : ℕ) (t : List ℕ) → soundb cells t ≡ true → segment_cells ≤ cells
unfolding soundb numberb
room cells t ok =
    let n = each_of _ (each_of _ ok).1.1.1.1.0 in
    let some = leb-true 1 (segments_in t) n.0 in
    let fit = leb-true (segment_cells * segments_in t) cells n.1.1.0 in
    omega arith

pub save-done : (s t img : List ℕ) → soundb (length s) t ≡ true → length img ≡ image_length served → save_out s t img ≡ outcome_of (done 0) (saved s t (image_of served t))
unfolding save_out image_gate start_gate refuse◌when◌else◌ settle
save-done s t img ok l = rw (ok, eq-eqb (length img) (image_length served) l) refl

pub load-done : (s t img : List ℕ) → length t ≡ tables_length → imageb served (length s) img ≡ true → load_out s t img ≡ outcome_of (done 0) (lent s (tables_from served img))
unfolding load_out image_gate start_gate refuse◌when◌else◌ settle
load-done s t img l ok =
    rw (eq-eqb (length t) tables_length l, le-leb 64 (length s) (room (length s) (tables_from served img) (imageb-facts served (length s) img ok).sound), ok) refl

-- the files that a sound image holds
pub sound-files : (s img : List ℕ) → imageb served (length s) img ≡ true → files_in s img ≡ some (view_house s (house_of (tables_from served img)))
unfolding files_in
sound-files s img ok = rw ok refl

-- ---- what a save writes: the form that is served reaches every file

module _ (cells : ℕ) (t : List ℕ) (ok : soundb cells t ≡ true) where
  reaches : reachesb served t ≡ true
  reaches = sound-reaches t (ranged-of cells t ok) served (le_refl greatest_end)

  pub saved-again : tables_from served (image_of served t) ≡ closed t
  saved-again = written-again cells t ok served formed-served reaches

  pub saved-sound : imageb served cells (image_of served t) ≡ true
  saved-sound =
      let x = written-facts cells t ok served formed-served reaches in
      judged-by-tables served cells (image_of served t) x cells ∙ x.sound
