-- `call_up_down::reaches` meets its contract: all records before `p` passed the test. Assumes nothing.
use native.Mathlib.Omega.{arith}
use Rattle.combine.specs.Laws.Below.{all-zero, all_more}
use Rattle.call_up_down.proofs.Reach.{begin-beyond, end-beyond, neither-beyond, one-beyond, all-within}
use Rattle.call_up_down.proofs.reaches.Goals as goal

pub loop-p-init : goal.loop-p-init
loop-p-init c = all-zero _

pub returns-then-greatest-number : goal.returns-then-greatest-number
returns-then-greatest-number c =
    one-beyond _ _ _ c.greatest_end-greatest.ensures c.loop-p.p (omega arith)
    (begin-beyond _ _ _ _ _ c.number.ensures c.of-begin.ensures c.if-greatest-number.true)

pub returns-then-greatest-number-2 : goal.returns-then-greatest-number-2
returns-then-greatest-number-2 c =
    one-beyond _ _ _ c.greatest_end-greatest.ensures c.loop-p.p (omega arith)
    (end-beyond _ _ _ _ _ c.number-in-loop-p.ensures c.of-end.ensures c.if-greatest-number-2.true)

pub loop-p-preserved : goal.loop-p-preserved
loop-p-preserved c =
    all_more _ c.loop-p.p c.loop-p.invariant
    (neither-beyond _ _ _ _ _ _ _ c.number.ensures c.of-begin.ensures c.number-in-loop-p.ensures c.of-end.ensures c.if-greatest-number.false c.if-greatest-number-2.false)

pub returns : goal.returns
returns c = all-within _ _ _ c.greatest_end-greatest.ensures _ (omega arith) (omega arith) c.loop-p.invariant
