-- `call_up_down::moved` meets its contract. Assumes nothing.
use Prim.Native.Nat.{ℕ}
use mathlib.Core.Path.{ap, ◌∙◌}
use lib.ListN.{length, length-replicate}
use Rattle.combine.specs.Laws.Below.{was-true, was-false}
use Rattle.placing.specs.Sizes.{tables_length}
use Rattle.image.specs.Forms.{form_of}
use Rattle.call_up_down.proofs.Laws.{wrong-image, long, made-ranged, too_far, written}
use Rattle.call_up_down.proofs.moved.Goals as goal

pub reaches-reached-requires : goal.reaches-reached-requires
reaches-reached-requires c = c.is_sound-sound.auto.beside ∙ ap length c.requires ∙ length-replicate {A = ℕ} tables_length 0

pub returns-then-not-sound-fits : goal.returns-then-not-sound-fits
returns-then-not-sound-fits c =
    let judged = c.is_sound-sound.ensures in
    wrong-image _ _ _ _ _ _ _ judged.value c.image_length.ensures c.if-not-sound-fits.true-raw

pub returns-then-not-reached : goal.returns-then-not-reached
returns-then-not-reached c =
    let judged = c.is_sound-sound.ensures in
    too_far _ _ _ _ _ _ _ judged.value c.image_length.ensures c.if-not-sound-fits.false-raw _ judged.beside_after
    (was-false c.if-not-reached.true-raw c.reaches-reached.ensures)

pub put_image-requires : goal.put_image-requires
put_image-requires c =
    let judged = c.is_sound-sound.ensures in
    let tested = c.if-not-sound-fits.false-raw in
    let measured = c.image_length.ensures in
    let reached = was-true c.if-not-reached.false-raw c.reaches-reached.ensures in
    (made-ranged _ (form_of c.args.to) _ _ _ _ _ judged.value measured tested _ judged.beside_after, reached, long _ (form_of c.args.to) _ _ _ _ _ judged.value measured tested)

pub returns : goal.returns
returns c =
    let judged = c.is_sound-sound.ensures in
    written _ _ _ _ _ _ _ judged.value c.image_length.ensures c.if-not-sound-fits.false-raw _ judged.beside_after
    (was-true c.if-not-reached.false-raw c.reaches-reached.ensures) _ c.put_image.ensures
