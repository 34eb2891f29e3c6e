use Rattle.write_plan.proofs.Decides.{decides}
use Rattle.write_plan.proofs.decide.Goals as goal

pub returns-then-foreign : goal.returns-then-foreign
returns-then-foreign c = search decides

pub returns-then-none : goal.returns-then-none
returns-then-none c = search decides

pub returns-then-opening-ne1 : goal.returns-then-opening-ne1
returns-then-opening-ne1 c = search decides

pub returns-then-is_before : goal.returns-then-is_before
returns-then-is_before c = search decides

pub returns-then-pointer-eq1 : goal.returns-then-pointer-eq1
returns-then-pointer-eq1 c = search decides

pub returns : goal.returns
returns c = search decides
