-- `image_code::spares::all_zero` meets its contract. Assumes nothing.
use mathlib.Core.Path.{sym, ap, ◌∙◌}
use Rattle.image.specs.Image.{image_length, sparesb}
use Rattle.image.specs.Forms.{form_of}
use Rattle.image_code.specs.Spare.{none-spare}
use Rattle.image_code.proofs.spares.all_zero.Goals as goal

pub ends_zero-requires : goal.ends_zero-requires
ends_zero-requires c = c.requires ∙ ap (λ f. image_length (form_of f)) c.in-Two.is

pub returns-in-One : goal.returns-in-One
returns-in-One c =
    let img = c.args.image.now in
    none-spare img ∙ sym (ap (λ f. sparesb (form_of f) img) c.in-One.is)

pub returns-in-Two : goal.returns-in-Two
returns-in-Two c =
    let img = c.args.image.now in
    c.ends_zero.ensures ∙ sym (ap (λ f. sparesb (form_of f) img) c.in-Two.is)
