-- `combine::all_zero` meets its contract: the bits gathered are zero where all cells before this one are. Assumes
-- nothing.
use mathlib.Core.Path.{sym}
use Rattle.combine.specs.Laws.Below.{all-zero}
use Rattle.combine.proofs.Turns.{gather-turn}
use Rattle.combine.proofs.all_zero.Goals as goal

pub loop-cell-init : goal.loop-cell-init
loop-cell-init c = sym (all-zero _)

pub loop-cell-preserved : goal.loop-cell-preserved
loop-cell-preserved c = let l = c.loop-cell in gather-turn c.args.cells.now l.cell-index l.bits l.invariant
