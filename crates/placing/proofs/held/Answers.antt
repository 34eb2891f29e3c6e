-- `placing::held` meets its contract. Assumes nothing.
use Prim.Native.Nat.{◌-◌}
use native.Mathlib.Omega.{arith}
use Rattle.placing.proofs.Laws.{held_none, held-some, place-fits}
use Rattle.placing.proofs.held.Goals as goal

pub returns-then-first-beyond : goal.returns-then-first-beyond
returns-then-first-beyond c =
    let a = c.args in let p = c.requires in held_none a.species p.0 a.begin.0 a.end.0 c.if-first-beyond.true

pub overflow_add-result : goal.overflow_add-result
overflow_add-result c =
    let a = c.args in let p = c.requires in let m = place-fits a.species p.0 a.begin.0 (a.end.0 - 1) _ (omega arith) c.slot.ensures in record { fits = m }

pub returns : goal.returns
returns c =
    let a = c.args in let p = c.requires in held-some a.species p.0 a.begin.0 a.end.0 _ (omega arith) c.slot.ensures
