-- `run_takes::take_all` meets its contract: of species 5 the cells are copied. Assumes nothing.
use borrow.Author.Rules.{rules}
use Rattle.run_spans.specs.Laws.Whole.{whole-fits}
use Rattle.run_takes.proofs.Laws.{alls}
use Rattle.run_takes.proofs.Whole.{all-copied}
use Rattle.run_takes.proofs.take_all.Goals as goal

pub take_cells-requires : goal.take_cells-requires
take_cells-requires c = search (whole-fits, rules)

pub returns-then-species-eq-WHOLE_SPECIES : goal.returns-then-species-eq-WHOLE_SPECIES
returns-then-species-eq-WHOLE_SPECIES c =
    let a = c.args in
    all-copied a.segment a.first (search rules) _ (λ i. (c.type_inv.store i).fits) a.count a.species (search rules) (search rules) (search rules) _ _ a.from (search rules)

pub take_row-requires : goal.take_row-requires
take_row-requires c = search (alls, rules)

pub returns : goal.returns
returns c = search (alls, rules)
