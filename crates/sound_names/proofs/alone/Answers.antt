-- `sound_names::alone` meets its contract: no record before place `q` clashes. Assumes nothing.
use mathlib.Core.Path.{sym, ap, ◌∙◌}
use mathlib.Core.Bool.{not}
use native.Mathlib.Omega.{arith}
use Rattle.combine.specs.Laws.Below.{all-zero, all_more, loop-true, loop-false}
use Rattle.sound_names.proofs.Places.{private-cell, alone-used}
use Rattle.sound_names.proofs.Shorts.{none-clashes}
use Rattle.sound_names.proofs.alone.Goals as goal

pub returns-then-apart : goal.returns-then-apart
returns-then-apart c =
    let t = c.args.tables.now in
    sym (none-clashes t _ _ _ _ _ c.args.p c.requires.0 c.requires.1 (private-cell t c.args.p) (sym c.apart.ensures ∙ c.if-apart.true)) ∙ alone-used t _ c.requires.1

pub loop-q-init : goal.loop-q-init
loop-q-init c = all-zero _

pub clashes-requires : goal.clashes-requires
clashes-requires c =
    (c.requires.0.halves, omega arith, c.requires.1)

pub returns-then-clashes : goal.returns-then-clashes
returns-then-clashes c = loop-false _ _ _ (omega arith) (ap not (sym c.clashes.ensures ∙ c.if-clashes.true)) ∙ alone-used _ _ c.requires.1

pub loop-q-preserved : goal.loop-q-preserved
loop-q-preserved c = all_more _ _ c.loop-q.invariant (ap not (sym c.clashes.ensures ∙ c.if-clashes.false))

pub returns : goal.returns
returns c = loop-true _ _ _ (omega arith) (omega arith) c.loop-q.invariant ∙ alone-used _ _ c.requires.1
