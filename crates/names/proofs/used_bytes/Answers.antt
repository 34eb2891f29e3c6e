-- `names::used_bytes` meets its contract: `Counting` says that the bytes before `i` are used. Assumes nothing.
use mathlib.Core.Path.{◌≡◌, sym, ◌∙◌}
use lib.ListN.{length}
use native.Mathlib.Omega.{arith}
use Rattle.names.proofs.Counted.{none-counted, all-counted, skipped-counted, symbol-counted, no_room, ending-left}
use Rattle.names.proofs.used_bytes.Goals as goal

pub loop-i-init : goal.loop-i-init
loop-i-init c = none-counted _

pub loop-i-preserved-in-Skipped : goal.loop-i-preserved-in-Skipped
loop-i-preserved-in-Skipped c =
    skipped-counted _ _ _ c.loop-i.invariant (omega arith) (sym c.byte_of.ensures ∙ c.in-Skipped.is)

pub returns-then-left-eq0 : goal.returns-then-left-eq0
returns-then-left-eq0 c =
    no_room _ _ _ c.loop-i.invariant (omega arith) _ (sym c.byte_of.ensures ∙ c.in-Symbol.is) c.if-left-eq0.true

pub loop-i-preserved : goal.loop-i-preserved
loop-i-preserved c =
    symbol-counted _ _ _ c.loop-i.invariant (omega arith) _ (sym c.byte_of.ensures ∙ c.in-Symbol.is) c.if-left-eq0.false

pub returns-in-Ending : goal.returns-in-Ending
returns-in-Ending c =
    ending-left _ _ _ c.loop-i.invariant (omega arith) (sym c.byte_of.ensures ∙ c.in-Ending.is)

pub returns : goal.returns
returns c =
    let l = c.loop-i in
    let e : length c.args.bytes.now ≡ l.i = omega arith in
    e ∙ all-counted _ _ _ l.invariant (omega arith)
