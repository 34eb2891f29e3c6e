-- `packing_rows::gather` meets its contract. Assumes nothing.
use native.Mathlib.Omega.{arith}
use Rattle.packing_rows.specs.Longer.{sum-suc}
use Rattle.packing_rows.proofs.Turns.{more_left, gather-fits, gather-begun, gather-packs}
use Rattle.packing_rows.proofs.gather.Goals as goal

pub overflow_add-waiting : goal.overflow_add-waiting
overflow_add-waiting c =
    let a = c.args in
    let r = c.requires.narrow in
    let w = c.loop-waiting.waiting in
    let i = c.loop-waiting.invariant in
    let t = c.loop-waiting-test.true in
    let m = more_left a.widths.now a.values.now r.0 r.1 r.2 a.waiting.next w.next a.waiting.bits w.bits i.0.0 i.1 c.requires.widths_bound t in
    record { fits = rw c.from.ensures (gather-fits a.widths.now a.values.now r.0 r.1 r.2 w.number w.bits w.next i.0 t m) }

pub loop-waiting-preserved : goal.loop-waiting-preserved
loop-waiting-preserved c =
    let a = c.args in
    let r = c.requires.narrow in
    let w = c.loop-waiting.waiting in
    let i = c.loop-waiting.invariant in
    let t = c.loop-waiting-test.true in
    let m = more_left a.widths.now a.values.now r.0 r.1 r.2 a.waiting.next w.next a.waiting.bits w.bits i.0.0 i.1 c.requires.widths_bound t in
    rw c.from.ensures (
      gather-begun a.widths.now a.values.now r.0 r.1 r.2 w.number w.bits w.next i.0 t m,
      omega (arith, i.1, sum-suc a.widths.now w.next m),
      λ row p. gather-packs a.widths.now a.values.now r.0 r.1 r.2 w.number w.bits w.next i.0 t m row (i.2 row p),
    )
