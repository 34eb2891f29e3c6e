-- `store::take_element` meets its contract: of species 5 the cell is the element. Assumes nothing.
use Rattle.store.specs.Store.{element_at}
use Rattle.store.proofs.Cells.{whole-read}
use Rattle.store.proofs.take_element.Goals as goal

pub returns-then-species-eq-WHOLE_SPECIES : goal.returns-then-species-eq-WHOLE_SPECIES
returns-then-species-eq-WHOLE_SPECIES c =
    let a = c.args in
    whole-read a.store.now a.segment a.position _ c.whole_index.ensures.cell a.species c.if-species-eq-WHOLE_SPECIES.true (λ j. (c.type_inv.store j).fits)

pub returns : goal.returns
unfolding element_at
returns c = cc
