use Rattle.history_words.specs.Laws.{found-here, not-here, none-left}
use Rattle.std.proofs.Common.{arith}
use Rattle.history_words.proofs.scan.find.Goals as goal

pub returns-then-text-i-clause-value : goal.returns-then-text-i-clause-value
returns-then-text-i-clause-value c =
    omega (arith, c.loop-i.invariant, found-here c.args.text.now c.args.byte c.loop-i.i c.args.to (omega arith) (omega arith) c.if-text-i.true)

pub loop-i-preserved : goal.loop-i-preserved
loop-i-preserved c =
    omega (arith, c.loop-i.invariant, not-here c.args.text.now c.args.byte c.loop-i.i c.args.to (omega arith) (omega arith) c.if-text-i.false)

pub returns-clause-value : goal.returns-clause-value
returns-clause-value c =
    omega (arith, c.loop-i.invariant, none-left c.args.text.now c.args.byte c.loop-i.i c.args.to (omega arith) (omega arith))
