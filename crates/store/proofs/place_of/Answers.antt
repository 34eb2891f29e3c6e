-- `store::place_of` meets its contract. Assumes nothing.
use Rattle.store.proofs.Cells.{in_segment, in_cell}
use Rattle.store.proofs.place_of.Goals as goal

pub returns : goal.returns
returns c =
    let a = c.args in
    record {
      cell = cc;
      width = c.width.ensures;
      bit = c.bit.ensures;
      inside = in_segment a.species c.requires.1 a.segment a.position _ _ c.cell-cell.ensures c.index.ensures;
      fitting = in_cell a.species c.requires.1 a.position _ _ c.width.ensures c.bit.ensures;
    }
