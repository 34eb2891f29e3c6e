-- `moves_carry::copy_pairs` meets its contract: what is to come of the plan makes of the store what the plan does. Assumes nothing.
use Prim.Native.Nat.{ℕ}
use native.Mathlib.Omega.{arith}
use mathlib.Core.Path.{sym, ap, subst, ◌∙◌}
use mathlib.Core.List.{List}
use lib.ListN.{length}
use Rattle.store.specs.Store.{copied}
use Rattle.segments.specs.Moves.{moved_cells}
use Rattle.moves_carry.proofs.Turns.{InStore, in-pair, in-rest, copy-turn, cells-short}
use Rattle.moves_carry.proofs.copy_pairs.Goals as goal

pub loop-pair-init : goal.loop-pair-init
loop-pair-init c =
    let given = c.into_iter-pair-iterator.ensures.into_iter_gives in
    let whole = ap (λ i. i.rest.now) given ∙ c.chunks_exact-pair-items.ensures.rest in
    let n = length c.args.store.now in
    (ap (λ i. i.size) given ∙ c.chunks_exact-pair-items.ensures.size, subst (InStore n) (sym whole) c.requires, ap (moved_cells c.args.store.now) whole)

pub copy_segment-requires : goal.copy_segment-requires
copy_segment-requires c =
    let l = c.loop-pair in
    let steps = c.in-Some.ensures.steps in
    let inside = in-pair (length l.store) c.in-Some.pair.now _ _ steps.1.0 l.invariant.1 in
    record {
      segment_cells_in_bounds = omega (arith, inside 0 (omega (arith, steps.1.1, l.invariant.0)), ap (λ g. g.0) c.of-from.ensures);
      segment_cells_in_bounds_2 = omega (arith, inside 1 (omega (arith, steps.1.1, l.invariant.0)), ap (λ g. g.0) c.of-to.ensures);
    }

pub loop-pair-preserved : goal.loop-pair-preserved
loop-pair-preserved c =
    let l = c.loop-pair in
    let steps = c.in-Some.ensures.steps in
    let pair = c.in-Some.pair.now in
    let rest = c.next.new.self.rest.now in
    let a = c.of-from in
    let b = c.of-to in (
      steps.0 ∙ l.invariant.0,
      subst (λ (n : ℕ). InStore n rest) (sym c.copy_segment.auto.store) (in-rest (length l.store) pair rest _ steps.1.0 l.invariant.1),
      ap (λ (r : List ℕ). moved_cells r rest) (c.copy_segment.ensures ∙ (λ i. copied l.store (a.ensures i) (b.ensures i)))
          ∙ copy-turn l.store pair rest (steps.1.1 ∙ l.invariant.0) ∙ ap (moved_cells l.store) (sym steps.1.0) ∙ l.invariant.2,
    )

pub returns : goal.returns
returns c =
    let l = c.loop-pair in
    sym (cells-short l.store l.pair-iterator.rest.now (omega (arith, c.in-None.ensures.steps.1.0, l.invariant.0))) ∙ l.invariant.2
