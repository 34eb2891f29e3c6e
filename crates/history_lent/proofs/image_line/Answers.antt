use Rattle.history_lent.specs.ImageLaws.{image-lines}
use Rattle.history_lent.proofs.image_line.Goals as goal

pub returns-in_default : goal.returns-in_default
returns-in_default c = search image-lines

pub returns : goal.returns
returns c = search image-lines
