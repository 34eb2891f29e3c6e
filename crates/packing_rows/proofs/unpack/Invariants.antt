-- `packing_rows::unpack` meets its contract. Assumes nothing.
use Rattle.packing_rows.proofs.Handed.{Handed}
use Rattle.packing_rows.proofs.unpack.Given as goal

abbrev pub invariant-loop-cell : goal.invariant-loop-cell
invariant-loop-cell l = Handed l.widths l.cells l.values l.waiting.number l.waiting.bits l.waiting.next l.cell-index
