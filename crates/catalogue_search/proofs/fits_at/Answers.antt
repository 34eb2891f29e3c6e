-- `catalogue_search::fits_at` meets its contract. Assumes nothing.
use mathlib.Core.Path.{◌∙◌}
use Rattle.catalogue_search.proofs.Fitting.{named-itself, in-its-row}
use Rattle.catalogue_search.proofs.fits_at.Goals as goal

pub returns-then-place-but : goal.returns-then-place-but
returns-then-place-but c = named-itself _ _ _ _ c.if-place-but.true

pub returns : goal.returns
returns c = c.fits.ensures ∙ in-its-row _ _ _ _ c.if-place-but.false
