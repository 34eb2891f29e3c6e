-- `placing::claim` meets its contract. Assumes nothing.
use native.Mathlib.Omega.{arith}
use Rattle.placing.proofs.Laws.{claim-empty, claim-some}
use Rattle.placing.proofs.claim.Goals as goal

pub returns-then-stretches-eq0 : goal.returns-then-stretches-eq0
returns-then-stretches-eq0 c =
    let p = c.requires.species_le_greatest_species in
    claim-empty c.args.species p.0 _ _ _ p.2 c.held-stretches.ensures c.if-stretches-eq0.true

pub overflow_mul-result : goal.overflow_mul-result
overflow_mul-result c =
    let p = c.requires.species_le_greatest_species in
    let some = claim-some c.args.species p.0 _ _ _ _ p.1 p.2 c.held-stretches.ensures c.if-stretches-eq0.false (omega arith) c.elements-size.ensures.0 in
    record { fits = some.0 }

pub overflow_sub-result-2 : goal.overflow_sub-result-2
overflow_sub-result-2 c =
    let p = c.requires.species_le_greatest_species in
    let some = claim-some c.args.species p.0 _ _ _ _ p.1 p.2 c.held-stretches.ensures c.if-stretches-eq0.false (omega arith) c.elements-size.ensures.0 in
    some.1

pub returns : goal.returns
returns c =
    let p = c.requires.species_le_greatest_species in
    let some = claim-some c.args.species p.0 _ _ _ _ p.1 p.2 c.held-stretches.ensures c.if-stretches-eq0.false (omega arith) c.elements-size.ensures.0 in
    some.2
