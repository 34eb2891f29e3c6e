-- `catalogue_search::keeps_off` meets its contract. Assumes nothing.
use Rattle.catalogue_search.proofs.Fitting.{not-open, elsewhere, from-work, from-reading}
use Rattle.catalogue_search.proofs.keeps_off.Goals as goal

pub returns-then-row-ne1 : goal.returns-then-row-ne1
returns-then-row-ne1 c = not-open _ _ _ c.if-row-ne1.true

pub returns-then-place-row : goal.returns-then-place-row
returns-then-place-row c = elsewhere _ _ _ c.if-row-ne1.false c.if-place-row.true

pub returns-then-work : goal.returns-then-work
returns-then-work c = from-work _ _ _ c.if-row-ne1.false c.if-place-row.false c.if-work.true

pub returns : goal.returns
returns c = from-reading _ _ _ c.if-row-ne1.false c.if-place-row.false c.if-work.false
