-- `catalogue_search::unused` meets its contract: every place below `lowest` is used. Assumes nothing.
use native.Mathlib.Omega.{arith}
use Rattle.combine.specs.Laws.First.{first-zero, first_more}
use Rattle.placing.specs.Sizes.{places}
use Rattle.catalogue_search.proofs.Searched.{found_here}
use Rattle.catalogue_search.proofs.Fitting.{is-unused, is-used}
use Rattle.catalogue_search.proofs.unused.Goals as goal

pub loop-lowest-init : goal.loop-lowest-init
loop-lowest-init c = first-zero _

pub returns-then-tables-lowest-ne1 : goal.returns-then-tables-lowest-ne1
returns-then-tables-lowest-ne1 c = found_here _ places _ c.loop-lowest.invariant (is-unused _ _ c.if-tables-lowest-ne1.true) (omega arith)

pub loop-lowest-preserved : goal.loop-lowest-preserved
loop-lowest-preserved c = first_more _ _ c.loop-lowest.invariant (is-used _ _ c.if-tables-lowest-ne1.false)
