-- `store::whole_index` meets its contract. Assumes nothing.
use lib.Dec.{lit≤}
use Rattle.placing.specs.Laws.Whole.{whole_species}
use Rattle.store.proofs.Cells.{in_segment}
use Rattle.store.proofs.whole_index.Goals as goal

pub returns : goal.returns
returns c =
    let a = c.args in
    record {
      cell = cc;
      inside = in_segment whole_species (lit≤ tt) a.segment a.position _ _ c.whole_cell-cell.ensures c.index.ensures;
    }
