-- `store::put_element` meets its contract: of species 5 the cell is the element. Assumes nothing.
use borrow.Author.Rules.{rules}
use Rattle.store.specs.Store.{put_element}
use Rattle.store.proofs.Cells.{whole-written}
use Rattle.store.proofs.put_element.Goals as goal

pub returns-then-species-eq-WHOLE_SPECIES : goal.returns-then-species-eq-WHOLE_SPECIES
returns-then-species-eq-WHOLE_SPECIES c =
    let a = c.args in
    whole-written a.store.now a.segment a.position _ c.whole_index.ensures.cell a.species c.if-species-eq-WHOLE_SPECIES.true (λ j. search rules) a.number c.ranges.number.fits

pub returns : goal.returns
unfolding put_element
returns c = cc
