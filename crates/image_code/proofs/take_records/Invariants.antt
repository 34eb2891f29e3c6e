-- `image_code::take_records` meets its contract: after p turns the tables have p records after their first cell. Assumes nothing.
use mathlib.Core.Path.{◌≡◌}
use Rattle.placing.specs.Sizes.{record_length}
use Rattle.image.specs.Image.{record_from}
use Rattle.image.specs.Forms.{form_of}
use Rattle.image_code.specs.Lengths.{record-from-length}
use Rattle.image_code.specs.Widths.{formed}
use Rattle.image_code.proofs.Turns.{placed}
use Rattle.image_code.proofs.take_records.Given as goal

abbrev pub invariant-loop-p : goal.invariant-loop-p
invariant-loop-p l = l.tables ≡ placed (record_from (form_of l.fn.form) l.image) record_length (record-from-length (form_of l.fn.form) (formed l.fn.form) l.image) l.initial.tables l.p
