-- `tables::Opening::free_pointer` meets its contract: no name before `pointer` is free. Assumes nothing.
use mathlib.Core.Path.{◌≡◌, refl}
use native.Mathlib.Omega.{arith}
use borrow.Author.Rules.{rules}
use lib.ListN.{length}
use Rattle.tables.specs.Pointers.{lowest_free_pointer}
use Rattle.tables.specs.Laws.Lengths.{unmapped}
use Rattle.tables.proofs.First.{free-here, free-next, free-end}
use Rattle.tables.proofs.Opening.free_pointer.Goals as goal

pub loop-pointer-init : goal.loop-pointer-init
unfolding lowest_free_pointer
loop-pointer-init c = (omega arith, omega arith, refl)

pub returns-then-is_none : goal.returns-then-is_none
returns-then-is_none c =
    let o = c.args.self in
    let eight : length o.pointers ≡ 8 = search (rules, unmapped) in
    (free-here o c.loop-pointer.pointer eight c.loop-pointer.invariant.2 (omega arith) _ c.value.ensures _ c.is_none.ensures c.if-is_none.true, omega arith)

pub loop-pointer-preserved : goal.loop-pointer-preserved
loop-pointer-preserved c =
    let o = c.args.self in
    let eight : length o.pointers ≡ 8 = search (rules, unmapped) in
    (omega arith, omega arith, free-next o c.loop-pointer.pointer eight c.loop-pointer.invariant.2 (omega arith) _ c.value.ensures _ c.is_none.ensures c.if-is_none.false)

pub returns : goal.returns
returns c =
    let o = c.args.self in
    let eight : length o.pointers ≡ 8 = search (rules, unmapped) in
    let e : c.loop-pointer.pointer ≡ lowest_free_pointer o = free-end o c.loop-pointer.pointer eight c.loop-pointer.invariant.2 (omega arith) in omega arith
