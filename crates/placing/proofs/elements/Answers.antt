-- `placing::elements` meets its contract. Assumes nothing.
use mathlib.Core.Path.{refl}
use Rattle.placing.specs.Sizes.{elements_of}
use Rattle.placing.specs.Laws.Sized.{elements-many}
use Rattle.placing.proofs.elements.Goals as goal

pub returns : goal.returns
unfolding elements_of
returns c = (refl, elements-many c.args.species c.requires)
