-- `packing_rows::pack` meets its contract. Assumes nothing.
use Rattle.packing_rows.specs.Cells.{Cells}
use Rattle.packing_rows.proofs.Filled.{Filled}
use Rattle.packing_rows.proofs.pack.Given as goal

abbrev pub invariant-loop-cell : goal.invariant-loop-cell
invariant-loop-cell l = Cells l.cells × Filled l.widths l.values l.cells l.waiting.number l.waiting.bits l.waiting.next l.cell-index
