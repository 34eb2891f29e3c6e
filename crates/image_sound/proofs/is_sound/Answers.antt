-- `image_sound::is_sound` meets its contract. Assumes nothing.
use mathlib.Core.Path.{sym, ◌∙◌}
use borrow.Author.Tests.{not-true}
use Rattle.combine.specs.Lists.{part}
use Rattle.combine.specs.Laws.Below.{was-true}
use Rattle.image.specs.Forms.{form_of}
use Rattle.image_sound.proofs.Laws.{wrong-length, other-form, not-zero, spare-set, by-tables}
use Rattle.image_sound.proofs.is_sound.Goals as goal

pub returns-then-image-image_length-clause-value : goal.returns-then-image-image_length-clause-value
returns-then-image-image_length-clause-value c =
    wrong-length (form_of c.args.form) c.args.cells c.args.image.now (λ z. c.if-image-image_length.true (z ∙ sym c.image_length.ensures))

pub returns-then-number-clause-value : goal.returns-then-number-clause-value
unfolding part
returns-then-number-clause-value c =
    other-form (form_of c.args.form) c.args.cells c.args.image.now _ c.take_head.ensures (λ z. c.if-number.true (z ∙ sym c.number.ensures))

pub returns-then-zeros-ne0-clause-value : goal.returns-then-zeros-ne0-clause-value
unfolding part
returns-then-zeros-ne0-clause-value c =
    not-zero (form_of c.args.form) c.args.cells c.args.image.now _ c.take_head.ensures c.if-zeros-ne0.true

pub all_zero-requires : goal.all_zero-requires
all_zero-requires c = c.if-image-image_length.false ∙ c.image_length.ensures

pub returns-then-not-all_zero-clause-value : goal.returns-then-not-all_zero-clause-value
unfolding part
returns-then-not-all_zero-clause-value c =
    spare-set (form_of c.args.form) c.args.cells c.args.image.now _ c.take_head.ensures _ c.all_zero.ensures (not-true _ c.if-not-all_zero.true-raw)

pub take_image-requires : goal.take_image-requires
take_image-requires c = (c.if-image-image_length.false ∙ c.image_length.ensures, c.requires)

pub returns-clause-value : goal.returns-clause-value
unfolding part
returns-clause-value c =
    by-tables (form_of c.args.form) c.args.cells c.args.image.now _ c.take_head.ensures _ _ c.take_image.ensures (c.if-image-image_length.false ∙ c.image_length.ensures)
    (c.if-number.false ∙ c.number.ensures) c.if-zeros-ne0.false (was-true c.if-not-all_zero.false-raw c.all_zero.ensures) c.sound.ensures
