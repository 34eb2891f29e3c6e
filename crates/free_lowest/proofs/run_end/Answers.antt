-- `free_lowest::run_end` meets its contract: what is left of the row has the end of the whole. Assumes nothing.
use mathlib.Core.Path.{sym, ◌∙◌}
use native.Mathlib.Omega.{arith}
use lib.Dec.{eqb}
use lib.ListN.{get_or}
use Rattle.combine.specs.Laws.Any.{byte-few}
use Rattle.free_lowest.proofs.Runs.{run-turn, run-done}
use Rattle.free_lowest.proofs.run_end.Goals as goal

pub loop-listed-preserved : goal.loop-listed-preserved
loop-listed-preserved c =
    let l = c.loop-listed in
    let row = c.args.row.now in
    (omega (arith, l.invariant.0, byte-few (eqb (get_or row l.listed-index 0) l.next)), l.invariant.1 ∙ run-turn row l.listed-index l.next (omega arith))

pub returns : goal.returns
returns c =
    let l = c.loop-listed in
    run-done c.args.row.now l.listed-index l.next (omega arith) ∙ sym l.invariant.1
