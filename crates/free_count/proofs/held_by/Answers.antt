-- `free_count::held_by` meets its contract: what `placing::held` asks is required where the first cell is not 0. Assumes nothing.
use mathlib.Core.Path.{◌≡◌, sym, ap, ◌∙◌}
use native.Mathlib.Omega.{arith}
use borrow.Author.Tests.{eq-eqb, ne_eqb}
use Rattle.placing.specs.Placing.{held_of}
use Rattle.tables.specs.Laws.ExtentFacts.{SoundExtent}
use Rattle.free_count.proofs.held_by.Goals as goal

pub returns-then-used-eq0 : goal.returns-then-used-eq0
returns-then-used-eq0 c = sym (simp (eq-eqb _ _ c.if-used-eq0.true))

pub held-requires : goal.held-requires
held-requires c =
    let e : SoundExtent c.args.species c.args.begin c.args.end = c.requires c.if-used-eq0.false in
    let b : c.of.result.0 ≡ c.args.begin = ap (λ x. x.0) c.of.ensures in
    let z : c.of-2.result.0 ≡ c.args.end = ap (λ x. x.0) c.of-2.ensures in
    (e.species, omega (arith, e.begin), omega (arith, e.end), omega (arith, e.greatest))

pub returns : goal.returns
returns c =
    let b : c.of.result.0 ≡ c.args.begin = ap (λ x. x.0) c.of.ensures in
    let z : c.of-2.result.0 ≡ c.args.end = ap (λ x. x.0) c.of-2.ensures in
    simp (ne_eqb _ _ c.if-used-eq0.false) (c.held.ensures ∙ (λ j. held_of c.args.species (b j) (z j)))
