-- `packing_rows::hand_out` meets its contract. Assumes nothing.
use native.Mathlib.Omega.{arith}
use Rattle.packing_rows.specs.Longer.{sum-suc}
use Rattle.packing_rows.proofs.Handed.{value-lt, handed-begun, handed-unpacks}
use Rattle.packing_rows.proofs.hand_out.Goals as goal

pub overflow_cast-values : goal.overflow_cast-values
overflow_cast-values c =
    let l = c.loop-waiting in
    let w = l.waiting in
    record { fits = value-lt c.args.widths.now c.requires.narrow.0 w.number w.bits w.next l.invariant.0 c.loop-waiting-test.true c.if-waiting-width.false }

pub loop-waiting-preserved : goal.loop-waiting-preserved
loop-waiting-preserved c =
    let widths = c.args.widths.now in
    let narrow = c.requires.narrow.0 in
    let l = c.loop-waiting in
    let w = l.waiting in
    let t = c.loop-waiting-test.true in
    let enough = c.if-waiting-width.false in (
      handed-begun widths narrow w.number w.bits w.next l.invariant.0 t enough,
      omega (arith, l.invariant.1, sum-suc widths w.next t, enough),
      λ row p. handed-unpacks widths narrow w.number w.bits w.next l.invariant.0 t enough l.values (omega arith) row (l.invariant.2 row p),
    )
