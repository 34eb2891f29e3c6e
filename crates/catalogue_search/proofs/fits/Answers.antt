-- `catalogue_search::fits` meets its contract. Assumes nothing.
use mathlib.Core.Path.{sym, ◌∙◌}
use Rattle.catalogue_search.proofs.Fitting.{not-used, not-concerned, as-named}
use Rattle.catalogue_search.proofs.fits.Goals as goal

pub returns-then-row-ne1 : goal.returns-then-row-ne1
returns-then-row-ne1 c = not-used _ _ c.if-row-ne1.true

pub returns-then-not-concerns : goal.returns-then-not-concerns
returns-then-not-concerns c =
    let a = c.args in
    not-concerned a.wanted a.name.now a.row.now c.if-row-ne1.false (sym c.concerns.ensures ∙ c.if-not-concerns.true)

pub returns : goal.returns
returns c =
    let a = c.args in
    c.same_cells.ensures
    ∙ as-named a.wanted a.name.now a.row.now c.if-row-ne1.false (sym c.concerns.ensures ∙ c.if-not-concerns.false)
