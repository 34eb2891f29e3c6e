-- `packing_rows::unpack` meets its contract. Assumes nothing.
use Prim.Native.Nat.{◌+◌, ◌^◌, ◌<◌}
use native.Mathlib.Omega.{arith}
use Rattle.packing_rows.proofs.Handed.{handed-start, read-begun, read-unpacks, left-few, handed-done}
use Rattle.packing_rows.proofs.unpack.Goals as goal

pub loop-cell-init : goal.loop-cell-init
loop-cell-init c = handed-start c.args.widths.now c.args.cells.now c.args.values.now c.requires.narrow.0

pub hand_out-waiting-requires-clause-begun : goal.hand_out-waiting-requires-clause-begun
hand_out-waiting-requires-clause-begun c =
    let l = c.loop-cell in
    let w = l.waiting in
    let small : c.from.result < 2 ^ 32 = omega (arith, (c.type_inv.cells l.cell-index).fits) in
    read-begun c.args.widths.now c.args.cells.now w.number w.bits w.next l.cell-index c.from.result l.invariant.0 l.invariant.1 small

pub loop-cell-preserved : goal.loop-cell-preserved
loop-cell-preserved c =
    let l = c.loop-cell in
    let w = l.waiting in
    let widths = c.args.widths.now in
    let cells = c.args.cells.now in
    let small : c.from.result < 2 ^ 32 = omega (arith, (c.type_inv.cells l.cell-index).fits) in
    let f = c.hand_out-waiting in
    let sums = f.ensures.bits_value in
    let bound = f.ensures.bits_bound in (
      bound.1,
      left-few widths cells c.requires.narrow.0 c.requires.widths_bound.0 c.requires.widths_bound.1 f.result.bits f.result.next (l.cell-index + 1) bound.1.0 (omega arith) (omega (arith, sums, l.invariant.2)) bound.0,
      omega (arith, sums, l.invariant.2),
      bound.0,
      f.ensures.by_index _ (read-unpacks widths cells w.number w.bits w.next l.cell-index c.from.result l.invariant.0 l.invariant.1 small l.values (omega arith) c.from.ensures l.invariant.4),
    )

pub returns : goal.returns
returns c =
    let l = c.loop-cell in
    let w = l.waiting in
    handed-done c.args.widths.now c.args.cells.now c.requires.narrow.0 c.requires.widths_bound.0 c.requires.widths_bound.1 l.values w.number w.bits w.next l.cell-index (omega arith) (omega arith) l.invariant
