-- `moves_pairs::next_of` meets its contract: no number of the kind was passed over. Assumes nothing.
use native.Mathlib.Omega.{arith}
use mathlib.Core.Path.{◌≡◌, sym, ap, ◌∙◌}
use borrow.Author.Tests.{eq-eqb, ne_eqb}
use Rattle.combine.specs.Below.{count_below}
use Rattle.combine.specs.Laws.Below.{count-miss}
use Rattle.moves_pairs.specs.Kinds.{is_kind}
use Rattle.moves_pairs.proofs.Turns.{next-below}
use Rattle.moves_pairs.proofs.next_of.Goals as goal

pub returns-then-kinds-number : goal.returns-then-kinds-number
returns-then-kinds-number c = (c.loop-number-test.true, eq-eqb _ _ c.if-kinds-number.true, c.loop-number.invariant)

pub loop-number-preserved : goal.loop-number-preserved
loop-number-preserved c =
    let l = c.loop-number in
    count-miss (is_kind c.args.kinds.now c.args.kind) l.number (ne_eqb _ _ c.if-kinds-number.false) ∙ l.invariant

-- there is one
pub returns : goal.returns
returns c =
    let a = c.args in
    let l = c.loop-number in
    let f = is_kind a.kinds.now a.kind in
    let inside = next-below f a.start a.segments c.requires.1 in
    let e : l.number ≡ a.segments = omega arith in
    absurd (let z : ⊥ = omega (arith, c.requires.1, ap (λ n. count_below n f) (sym e) ∙ l.invariant) in z)
