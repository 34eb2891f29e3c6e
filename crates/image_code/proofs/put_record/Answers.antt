-- `image_code::put_record` meets its contract: numbers that are all zero fill cells that are. Assumes nothing.
use Prim.Native.Nat.{ℕ}
use mathlib.Core.Path.{sym, ap, ◌∙◌}
use lib.ListN.{length, length-replicate}
use Rattle.image.specs.Forms.{form_of}
use Rattle.image_code.specs.Rows.{packed-blank}
use Rattle.image_code.proofs.put_record.Goals as goal

pub returns-then-values-eq0 : goal.returns-then-values-eq0
returns-then-values-eq0 c =
    c.requires.1 ∙ sym (packed-blank (form_of c.args.form) c.args.values.now (c.requires.2.blank c.if-values-eq0.true))

pub pack_record-requires : goal.pack_record-requires
pack_record-requires c =
    (c.requires.0, ap length c.requires.1 ∙ length-replicate {A = ℕ} (form_of c.args.form).cells 0, c.requires.2.fits, c.requires.3)
