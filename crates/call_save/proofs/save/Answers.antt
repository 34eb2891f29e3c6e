-- `call_save::save` meets its contract. Assumes nothing.
use native.Mathlib.Nat.{le_refl}
use lib.ListN.{length}
use Rattle.placing.specs.Sizes.{greatest_end}
use Rattle.tables.specs.Laws.Sound.{ranged-of}
use Rattle.image.specs.Image.{served}
use Rattle.image_code.specs.Fits.{sound-reaches}
use Rattle.call_save.proofs.Laws.{saves}
use Rattle.call_save.proofs.save.Goals as goal

pub put_image-requires : goal.put_image-requires
put_image-requires c =
    let ranged = ranged-of (length c.args.store.now) _ (search saves) in
    (ranged, sound-reaches _ ranged served (le_refl greatest_end), c.if-image-ne-IMAGE_LENGTH.false)
