-- `combine::lists` meets its contract: `times` is 0 exactly if none of the numbers before this one is the one
-- sought. Assumes nothing.
use Prim.Native.Nat.{ℕ}
use mathlib.Core.Path.{sym, refl}
use mathlib.Core.Bool.{Bool, not}
use native.Mathlib.Omega.{arith}
use lib.Dec.{eqb}
use lib.ListN.{get_or}
use Rattle.combine.specs.Laws.Below.{all-zero}
use Rattle.combine.specs.Laws.Any.{byte-few}
use Rattle.combine.proofs.Hits.{hits-turn, hits-done}
use Rattle.combine.proofs.lists.Goals as goal

pub loop-listed-init : goal.loop-listed-init
loop-listed-init c = (omega arith, sym (all-zero _))

pub overflow_add-times : goal.overflow_add-times
overflow_add-times c = omega (arith, byte-few)

pub loop-listed-preserved : goal.loop-listed-preserved
loop-listed-preserved c =
    let a = c.args in
    let l = c.loop-listed in
    let f : ℕ → Bool = λ j. eqb a.number (get_or a.row.now j 0) in
    (omega (arith, byte-few), hits-turn f (λ j. not (f j)) l.listed-index l.times refl l.invariant.1)

pub returns : goal.returns
returns c =
    let l = c.loop-listed in
    hits-done c.args.row.now c.args.number l.listed-index l.times (omega arith) l.invariant.1
