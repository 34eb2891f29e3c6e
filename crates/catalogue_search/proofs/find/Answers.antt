-- `catalogue_search::find` meets its contract: no place below `place` has such a record. Assumes nothing.
use mathlib.Core.Path.{sym, ◌∙◌}
use native.Mathlib.Omega.{arith}
use Rattle.combine.specs.Laws.First.{first-zero, first_more}
use Rattle.placing.specs.Sizes.{places}
use Rattle.catalogue_search.proofs.Searched.{found_here}
use Rattle.catalogue_search.proofs.find.Goals as goal

pub loop-place-init : goal.loop-place-init
loop-place-init c = first-zero _

pub fits_at-requires : goal.fits_at-requires
fits_at-requires c = (c.requires, omega arith)

pub returns-then-fits_at : goal.returns-then-fits_at
returns-then-fits_at c = found_here _ places _ c.loop-place.invariant (sym c.fits_at.ensures ∙ c.if-fits_at.true) (omega arith)

pub loop-place-preserved : goal.loop-place-preserved
loop-place-preserved c = first_more _ _ c.loop-place.invariant (sym c.fits_at.ensures ∙ c.if-fits_at.false)
