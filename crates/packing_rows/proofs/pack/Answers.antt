-- `packing_rows::pack` meets its contract. Assumes nothing.
use Prim.Native.Nat.{ℕ}
use mathlib.Core.Path.{◌≡◌, ap, ◌∙◌}
use native.Mathlib.Omega.{arith}
use lib.ListN.{length}
use Rattle.packing.specs.Packing.{cells_of, packed}
use Rattle.packing_rows.specs.Cells.{set-cells}
use Rattle.packing_rows.proofs.Filled.{filled-start, cell-lt, filled-turn, filled-done}
use Rattle.packing_rows.proofs.pack.Goals as goal

pub loop-cell-init : goal.loop-cell-init
loop-cell-init c =
    let a = c.args in
    (λ i. (c.type_inv.cells i).fits, filled-start a.widths.now a.values.now a.cells.now)

pub overflow_cast-cell : goal.overflow_cast-cell
overflow_cast-cell c =
    let g = c.gather-gathered in
    record { fits = cell-lt c.args.widths.now g.result.number g.result.bits g.result.next g.ensures.le_bits.1 g.ensures.le_bits.0 }

pub loop-cell-preserved : goal.loop-cell-preserved
loop-cell-preserved c =
    let a = c.args in
    let l = c.loop-cell in
    let g = c.gather-gathered in
    let begun = g.ensures.le_bits.1 in
    let full = g.ensures.le_bits.0 in (
      set-cells l.cells l.cell-index _ l.invariant.0 (cell-lt a.widths.now g.result.number g.result.bits g.result.next begun full),
      filled-turn a.widths.now g.result.number g.result.bits g.result.next begun full a.values.now l.cells l.cell-index l.waiting.bits l.waiting.next (omega arith) g.ensures.bits_value l.invariant.1.2 (g.ensures.by_index _ l.invariant.1.3),
    )

pub returns : goal.returns
returns c =
    let a = c.args in
    let l = c.loop-cell in
    let w = l.waiting in
    let long : length l.cells ≡ length a.cells.now = omega arith in
    filled-done a.widths.now a.values.now c.requires.0 c.requires.1 l.cells w.number w.bits w.next l.cell-index l.invariant.0 (omega arith) (omega arith) l.invariant.1
    ∙ ap (λ (n : ℕ). cells_of n (packed a.widths.now a.values.now)) long
