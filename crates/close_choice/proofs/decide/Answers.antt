-- `close_choice::decide` meets its contract. Assumes nothing.
use mathlib.Core.Path.{sym, ◌∙◌}
use Rattle.close_choice.proofs.Chain.{scratch-closed, read-closed, work_closed}
use Rattle.close_choice.proofs.decide.Goals as goal

pub returns-then-is_scratch : goal.returns-then-is_scratch
returns-then-is_scratch c =
    let a = c.args in
    record {
      verdict = c.ending.ensures.verdict a.user a.opening ∙ scratch-closed a.tables.now a.user a.opening a.public (sym c.is_scratch.ensures ∙ c.if-is_scratch.true);
      range = c.ending.ensures.range;
    }

pub returns-then-permit-ne1 : goal.returns-then-permit-ne1
returns-then-permit-ne1 c =
    let a = c.args in
    record {
      verdict = c.ending-then-permit-ne1.ensures.verdict a.user a.opening ∙ read-closed a.tables.now a.user a.opening a.public (sym c.is_scratch.ensures ∙ c.if-is_scratch.false) c.if-permit-ne1.true;
      range = c.ending-then-permit-ne1.ensures.range;
    }

pub returns : goal.returns
returns c =
    let a = c.args in
    record {
      verdict = c.filing.ensures.verdict a.opening ∙ work_closed a.tables.now a.user a.opening a.public (sym c.is_scratch.ensures ∙ c.if-is_scratch.false) c.if-permit-ne1.false;
      range = c.filing.ensures.range;
    }
