-- `run_takes::take_row` meets its contract: the first `n` elements are in the list. Assumes nothing.
use borrow.Author.Rules.{rules}
use Prim.Native.Nat.{◌<◌}
use native.Mathlib.Omega.{arith}
use Rattle.run_takes.proofs.Laws.{takes}
use Rattle.run_takes.proofs.take_row.Goals as goal

pub loop-n-init : goal.loop-n-init
loop-n-init c = (search rules, search takes, search takes)

pub take_after-requires : goal.take_after-requires
take_after-requires c = search (takes, rules)

pub overflow_add-bits : goal.overflow_add-bits
overflow_add-bits c =
    let few : c.loop-n.bits < 8796093022208 = search (takes, rules) in
    omega arith

pub loop-n-preserved : goal.loop-n-preserved
loop-n-preserved c = (search rules, search takes, search (takes, rules))

pub returns : goal.returns
returns c = search (takes, rules)
