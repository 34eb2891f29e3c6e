-- `image_code::widths::count` meets its contract. Assumes nothing.
use mathlib.Core.Path.{ap, sym}
use lib.ListN.{length}
use Rattle.image.specs.Image.{record_widths, row_widths}
use Rattle.image.specs.Forms.{form_of}
use Rattle.image_code.proofs.widths.count.Goals as goal

pub returns-in-One : goal.returns-in-One
unfolding record_widths
returns-in-One c = sym (ap (λ f. length (row_widths (form_of f))) c.in-One.is)

pub returns-in-Two : goal.returns-in-Two
unfolding record_widths
returns-in-Two c = sym (ap (λ f. length (row_widths (form_of f))) c.in-Two.is)
