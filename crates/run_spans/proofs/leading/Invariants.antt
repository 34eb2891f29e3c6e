-- `run_spans::leading` meets its contract: none of the numbers before number `j` is too wide. Assumes nothing.
use Rattle.run_spans.proofs.Fit.{AllFit}
use Rattle.run_spans.proofs.leading.Given as goal

abbrev pub invariant-loop-j : goal.invariant-loop-j
invariant-loop-j l = AllFit l.species l.list l.j
