-- `run_puts::put_row` meets its contract: the numbers before the next one are put. Assumes nothing.
use borrow.Author.Rules.{rules}
use Prim.Native.Nat.{◌-◌, ◌<◌}
use native.Mathlib.Omega.{arith}
use lib.Seq.{length-take-le, get_or-take}
use Rattle.run_puts.proofs.Laws.{puts}
use Rattle.run_puts.proofs.put_row.Goals as goal

pub loop-number-init : goal.loop-number-init
loop-number-init c = (search rules, search puts, search puts)

pub put_after-requires : goal.put_after-requires
put_after-requires c = search (puts, rules)

pub overflow_add-bits : goal.overflow_add-bits
overflow_add-bits c =
    let few : c.loop-number.bits < 8796093022208 = search (puts, rules) in
    omega arith

pub loop-number-preserved : goal.loop-number-preserved
loop-number-preserved c =
    let list = c.args.list.now in
    let many = length-take-le (c.args.count - 0) list (omega arith) in
    let number = get_or-take (c.args.count - 0) list c.loop-number.number-index 0 (omega (arith, many)) in
    (search rules, search puts, search (puts, rules))

pub returns : goal.returns
returns c = search (puts, rules)
