-- `moves_pairs::pairs` meets its contract: each hand has passed so many of its kind as there are pairs. Assumes nothing.
use Prim.Native.Nat.{ℕ, ◌+◌, ◌*◌, ◌≤◌}
use native.Mathlib.Omega.{arith}
use mathlib.Core.Path.{◌≡◌, sym, ap, ◌∙◌}
use mathlib.Core.List.{List}
use lib.ListN.{length, set}
use lib.Seq.{paste, paste-zero}
use Rattle.combine.specs.Below.{picked}
use Rattle.combine.specs.Laws.Below.{count-hit}
use Rattle.combine.specs.Laws.Counts.{count-start}
use Rattle.moves_pairs.specs.Kinds.{is_kind}
use Rattle.combine.specs.Lists.{paired}
use Rattle.combine.specs.Laws.Picked.{length-picked}
use Rattle.moves_pairs.proofs.Turns.{pair_turn, at-hand}
use Rattle.moves_pairs.proofs.pairs.Goals as goal

pub loop-pair-init : goal.loop-pair-init
loop-pair-init c =
    (sym (count-start _), sym (count-start _), paste-zero c.args.room.now 0 (paired (picked c.args.segments (is_kind c.args.kinds.now 1)) (picked c.args.segments (is_kind c.args.kinds.now 2))))

pub next_of-source-requires : goal.next_of-source-requires
next_of-source-requires c =
    (c.requires.0, omega (arith, c.loop-pair.invariant.0, c.requires.1))

pub next_of-target-requires : goal.next_of-target-requires
next_of-target-requires c =
    (c.requires.0, omega (arith, c.loop-pair.invariant.1, c.requires.2))

pub overflow_cast-room : goal.overflow_cast-room
overflow_cast-room c = omega (arith, c.next_of-source.ensures.0, c.requires.0)

pub overflow_cast-room-in-loop-pair : goal.overflow_cast-room-in-loop-pair
overflow_cast-room-in-loop-pair c = omega (arith, c.next_of-target.ensures.0, c.requires.0)

pub overflow_add-from : goal.overflow_add-from
overflow_add-from c = omega (arith, c.next_of-source.ensures.0, c.requires.0)

pub overflow_add-to : goal.overflow_add-to
overflow_add-to c = omega (arith, c.next_of-target.ensures.0, c.requires.0)

pub loop-pair-preserved : goal.loop-pair-preserved
loop-pair-preserved c =
    let l = c.loop-pair in
    let n = c.args.segments in
    let f = is_kind c.args.kinds.now 1 in
    let g = is_kind c.args.kinds.now 2 in
    let a = c.next_of-source in
    let b = c.next_of-target in
    let few : length (picked n f) ≤ length (picked n g) = omega (arith, length-picked n f, length-picked n g, c.requires.1, c.requires.2) in (
      count-hit f a.result a.ensures.1 ∙ ap (λ (k : ℕ). k + 1) (a.ensures.2 ∙ l.invariant.0),
      count-hit g b.result b.ensures.1 ∙ ap (λ (k : ℕ). k + 1) (b.ensures.2 ∙ l.invariant.1),
      ap (λ (r : List ℕ). set (set r (2 * l.pair) a.result) (2 * l.pair + 1) b.result) l.invariant.2
          ∙ pair_turn c.args.room.now (picked n f) (picked n g) l.pair a.result b.result (omega (arith, c.requires.3)) (omega (arith, length-picked n f, c.requires.1)) few
          (at-hand f n a.result l.pair a.ensures.0 a.ensures.1 (a.ensures.2 ∙ l.invariant.0))
          (at-hand g n b.result l.pair b.ensures.0 b.ensures.1 (b.ensures.2 ∙ l.invariant.1)),
    )

pub returns : goal.returns
returns c =
    let l = c.loop-pair in
    let e : l.pair ≡ c.args.count = omega arith in
    l.invariant.2 ∙ ap (λ (k : ℕ). paste c.args.room.now 0 (paired (picked c.args.segments (is_kind c.args.kinds.now 1)) (picked c.args.segments (is_kind c.args.kinds.now 2))) (2 * k)) e
