use Rattle.run_spans.proofs.bits.put_after.Goals as goal

pub returns : goal.returns
returns c = cc
