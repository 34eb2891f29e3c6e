use Rattle.run_spans.proofs.Fit.{whole-fitting}
use Rattle.run_spans.proofs.fitting.Goals as goal

pub returns-then-species-eq-WHOLE_SPECIES : goal.returns-then-species-eq-WHOLE_SPECIES
returns-then-species-eq-WHOLE_SPECIES c =
    let s = c.args in
    whole-fitting s.species s.list.now s.most c.if-species-eq-WHOLE_SPECIES.true c.type_inv.list

pub returns-then-all_fit : goal.returns-then-all_fit
returns-then-all_fit c = c.all_fit.ensures c.if-all_fit.true
