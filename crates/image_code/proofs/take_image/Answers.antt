-- `image_code::take_image` meets its contract: zeros, the head's number of segments, and the records. Assumes nothing.
use Prim.Native.Nat.{ℕ}
use mathlib.Core.Path.{ap, ◌∙◌}
use native.Mathlib.Omega.{arith}
use lib.ListN.{length, get_or, length-set, length-replicate}
use Rattle.placing.specs.Sizes.{tables_length}
use Rattle.image.specs.Forms.{form_of}
use Rattle.image_code.proofs.Made.{tables-made, zeros-behind}
use Rattle.image_code.proofs.take_image.Goals as goal

pub bounds-tables-0 : goal.bounds-tables-0
bounds-tables-0 c = omega (arith, ap length c.requires.1 ∙ length-replicate {A = ℕ} tables_length 0)

pub take_records-requires : goal.take_records-requires
take_records-requires c =
    let z = zeros-behind c.args.tables.now (get_or c.take_head-head.result 1 0) c.requires.1 in
    (c.requires.0, z.0, z.1)

pub shape_of-tables : goal.shape_of-tables
shape_of-tables c = c.take_records.auto.tables ∙ length-set c.args.tables.now 0 _

pub returns : goal.returns
returns c =
    let h = c.take_head-head in
    tables-made (form_of c.args.form) c.args.image.now h.result c.args.tables.now c.take_records.new.tables h.ensures c.requires.1 c.take_records.ensures
