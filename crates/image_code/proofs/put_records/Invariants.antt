-- `image_code::put_records` meets its contract: after p turns the image has p records after its first cell. Assumes nothing.
use mathlib.Core.Path.{◌≡◌}
use Rattle.image.specs.Image.{record_image}
use Rattle.image.specs.Forms.{form_of}
use Rattle.image_code.specs.Lengths.{record-image-length}
use Rattle.image_code.proofs.Turns.{placed}
use Rattle.image_code.proofs.put_records.Given as goal

abbrev pub invariant-loop-p : goal.invariant-loop-p
invariant-loop-p l = l.image ≡ placed (record_image (form_of l.form) l.tables) (form_of l.form).cells (record-image-length (form_of l.form) l.tables) l.initial.image l.p
