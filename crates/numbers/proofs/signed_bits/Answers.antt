-- `numbers::signed_bits` meets its contract. Assumes nothing.
use mathlib.Core.Path.{ap, ◌∙◌}
use Prim.Native.Nat.{◌-◌, ◌%◌}
use native.Mathlib.Omega.{arith}
use lib.IntN.{ℤ, nat_abs}
use Rattle.numbers.specs.Numbers.{signed_ways}
use Rattle.numbers.proofs.Laws.{below-is, below-reads, below-bits, plus-reads, plus-bits}
use Rattle.numbers.proofs.signed_bits.Goals as goal

pub overflow_sub-below : goal.overflow_sub-below
overflow_sub-below c =
    let z = c.args.number in
    let f = c.ranges.number in
    rw (below-is z f c.if-number-lt0.true) (record { sfits = f.sfits })

pub overflow_cast-below : goal.overflow_cast-below
overflow_cast-below c =
    let z = c.args.number in
    let f = c.ranges.number in
    rw (below-reads z f c.if-number-lt0.true) (tt, record { fits = omega (arith, f.sfits) })

pub returns-then-number-lt0 : goal.returns-then-number-lt0
returns-then-number-lt0 c =
    let z = c.args.number in
    let f = c.ranges.number in
    ap (λ (y : ℤ). signed_ways - 1 - nat_abs y % signed_ways) (below-reads z f c.if-number-lt0.true) ∙ below-bits z f c.if-number-lt0.true

pub overflow_cast-result : goal.overflow_cast-result
overflow_cast-result c =
    let z = c.args.number in
    let f = c.ranges.number in
    rw (plus-reads z f c.if-number-lt0.false) (tt, record { fits = omega (arith, f.sfits) })

pub returns : goal.returns
returns c =
    let z = c.args.number in
    let f = c.ranges.number in
    ap (λ (y : ℤ). nat_abs y % signed_ways) (plus-reads z f c.if-number-lt0.false) ∙ plus-bits z f c.if-number-lt0.false
