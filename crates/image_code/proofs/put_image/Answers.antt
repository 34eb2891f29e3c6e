-- `image_code::put_image` meets its contract: zeros, the head, and then the records. Assumes nothing.
use mathlib.Core.Path.{ap, ◌∙◌}
use lib.ListN.{length}
use Rattle.image.specs.Forms.{form_of}
use Rattle.image_code.specs.Lengths.{head-length}
use Rattle.image_code.proofs.Made.{image-made, image-zeros}
use Rattle.image_code.proofs.put_image.Goals as goal

pub put_records-requires : goal.put_records-requires
put_records-requires c =
    let f = form_of c.args.form in
    let h = c.put_head in
    let z = image-zeros f c.fill.new.self h.new.out (length c.args.image.now) (c.fill.ensures.after (λ y e. e)) c.requires.2 (ap length h.ensures ∙ head-length f _) in
    record {
      ranged = (c.requires.0, c.requires.1, z.0);
      image_value = z.1;
    }

pub returns : goal.returns
returns c =
    let h = c.put_head in
    image-made (form_of c.args.form) c.args.tables.now c.fill.new.self h.new.out c.put_records.new.image
    h.ensures c.put_records.ensures
