use native.Mathlib.Omega.{arith}
use Prim.Native.Nat.{◌<◌}
use Rattle.run_spans.proofs.Laws.{bits}
use borrow.Author.Rules.{rules}
use Rattle.run_spans.proofs.bits.bits_to.Goals as goal

pub overflow_mul-result : goal.overflow_mul-result
overflow_mul-result c =
    let small : c.index-cell.result < 274877911040 = search (bits, rules) in
    omega arith

pub overflow_add-result : goal.overflow_add-result
overflow_add-result c =
    let small : c.index-cell.result < 274877911040 = search (bits, rules) in
    omega arith

pub returns : goal.returns
returns c = search (bits, rules)
