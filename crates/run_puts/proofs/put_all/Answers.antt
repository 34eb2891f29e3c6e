-- `run_puts::put_all` meets its contract: of species 5 the cells are copied. Assumes nothing.
use borrow.Author.Rules.{rules}
use Rattle.run_spans.specs.Laws.Whole.{whole-fits}
use Rattle.run_puts.proofs.Laws.{alls}
use Rattle.run_puts.proofs.Whole.{all-copied}
use Rattle.run_puts.proofs.put_all.Goals as goal

pub put_cells-requires : goal.put_cells-requires
put_cells-requires c = search (whole-fits, rules)

pub returns-then-species-eq-WHOLE_SPECIES : goal.returns-then-species-eq-WHOLE_SPECIES
returns-then-species-eq-WHOLE_SPECIES c =
    all-copied _ _ (search rules) _ _ (λ i. (c.slice_known-1.given i).fits) (λ i. (c.shared_slice_known-1.given i).fits) _ (search rules) _ (search rules) (search rules) (search rules) _ (search rules)

pub put_row-requires : goal.put_row-requires
put_row-requires c = search (alls, rules)

pub returns : goal.returns
returns c = search (alls, rules)
