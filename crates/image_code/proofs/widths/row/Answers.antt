-- `image_code::widths::row` meets its contract. Assumes nothing.
use mathlib.Core.Path.{refl}
use Rattle.image.specs.Image.{record_widths}
use Rattle.image_code.proofs.widths.row.Goals as goal

pub returns-in-One : goal.returns-in-One
unfolding record_widths
returns-in-One c = rw c.in-One.is refl

pub returns-in-Two : goal.returns-in-Two
unfolding record_widths
returns-in-Two c = rw c.in-Two.is refl
