-- `catalogue_search::busy` meets its contract: no entry below `entry` keeps others off. Assumes nothing.
use mathlib.Core.Path.{sym, ◌∙◌}
use native.Mathlib.Omega.{arith}
use Rattle.combine.specs.Laws.First.{first-zero, first_more}
use Rattle.placing.specs.Sizes.{entries}
use Rattle.catalogue_search.proofs.Searched.{found_below}
use Rattle.catalogue_search.proofs.Fitting.{at_entry}
use Rattle.catalogue_search.proofs.busy.Goals as goal

pub loop-entry-init : goal.loop-entry-init
loop-entry-init c = first-zero _

pub returns-then-keeps_off : goal.returns-then-keeps_off
returns-then-keeps_off c = found_below _ entries _ c.loop-entry.invariant (sym (c.keeps_off.ensures ∙ at_entry _ _ _ _) ∙ c.if-keeps_off.true) (omega arith)

pub loop-entry-preserved : goal.loop-entry-preserved
loop-entry-preserved c = first_more _ _ c.loop-entry.invariant (sym (c.keeps_off.ensures ∙ at_entry _ _ _ _) ∙ c.if-keeps_off.false)
