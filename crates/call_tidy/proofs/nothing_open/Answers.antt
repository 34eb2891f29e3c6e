-- `call_tidy::nothing_open` meets its contract: no entry below `entry` is open. Assumes nothing.
use native.Mathlib.Omega.{arith}
use mathlib.Core.Path.{ap, ◌∙◌}
use mathlib.Core.Bool.{not}
use borrow.Author.Tests.{eq-eqb, ne_eqb}
use Rattle.combine.specs.Laws.Below.{all-zero, all_more, loop-true, loop-false}
use Rattle.placing.specs.Sizes.{entries}
use Rattle.call_tidy.proofs.Laws.{entry-cell, still-tables}
use Rattle.call_tidy.proofs.nothing_open.Goals as goal

pub loop-entry-init : goal.loop-entry-init
loop-entry-init c = all-zero _

pub returns-then-tables-entry-eq1 : goal.returns-then-tables-entry-eq1
returns-then-tables-entry-eq1 c =
    let l = c.loop-entry in
    let t = c.args.tables.now in
    loop-false _ entries l.entry (omega arith) (ap not (entry-cell t l.entry ∙ eq-eqb _ 1 c.if-tables-entry-eq1.true)) ∙ still-tables t

pub loop-entry-preserved : goal.loop-entry-preserved
loop-entry-preserved c =
    let l = c.loop-entry in
    all_more _ l.entry l.invariant (ap not (entry-cell c.args.tables.now l.entry ∙ ne_eqb _ 1 c.if-tables-entry-eq1.false))

pub returns : goal.returns
returns c = loop-true _ entries c.loop-entry.entry (omega arith) (omega arith) c.loop-entry.invariant ∙ still-tables c.args.tables.now
