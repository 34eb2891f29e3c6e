-- `open_choice::found` meets its contract. Assumes nothing.
use Rattle.open_choice.proofs.Chain.{no-work, not-now, opened-here}
use Rattle.open_choice.proofs.found.Goals as goal

pub returns-then-works_on_anothers : goal.returns-then-works_on_anothers
returns-then-works_on_anothers c = record {
  verdict = no-work _ _ _ _ _ c.works_on_anothers.ensures c.if-works_on_anothers.true;
  there = tt;
}

pub returns-then-busy : goal.returns-then-busy
returns-then-busy c = record {
  verdict = not-now _ _ _ _ _ c.works_on_anothers.ensures c.if-works_on_anothers.false _ c.busy.ensures c.if-busy.true;
  there = tt;
}

pub returns : goal.returns
returns c =
    let pre = c.requires in
    record {
      verdict = opened-here _ _ _ _ _ c.works_on_anothers.ensures c.if-works_on_anothers.false _ c.busy.ensures c.if-busy.false;
      there = (pre.1, pre.2);
    }
