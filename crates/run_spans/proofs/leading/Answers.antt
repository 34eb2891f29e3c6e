-- `run_spans::leading` meets its contract: none of the numbers before number `j` is too wide. Assumes nothing.
use Rattle.run_spans.proofs.Fit.{fits-none}
use Rattle.run_spans.proofs.leading.Goals as goal

pub loop-j-init : goal.loop-j-init
loop-j-init c = fits-none _ _
