-- `moves_carry::exchange_pairs` meets its contract: the numbers are exchanged by the pairs that were read. Assumes nothing.
use Prim.Native.Nat.{◌/◌}
use native.Mathlib.Omega.{arith}
use mathlib.Core.Path.{sym, ◌∙◌}
use lib.ListN.{length, length-set}
use Rattle.moves_carry.proofs.Turns.{exchange-start, exchange-down}
use Rattle.moves_carry.proofs.exchange_pairs.Goals as goal

pub loop-pair-init : goal.loop-pair-init
loop-pair-init c =
    let plan = c.args.plan.now in
    (omega arith, c.requires.0, λ g l. c.requires.2 g l ∙ sym (exchange-start plan (length plan / 2) g (omega arith)))

pub loop-pair-preserved : goal.loop-pair-preserved
loop-pair-preserved c =
    let l = c.loop-pair in
    (omega arith, simp length-set l.invariant.1, exchange-down c.args.plan.now l.numbers l.pair (omega arith) l.invariant.1 l.invariant.0 c.requires.1 l.invariant.2)
