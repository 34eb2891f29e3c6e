-- `close_choice::ending` meets its contract. Assumes nothing.
use native.Mathlib.Omega.{arith}
use Rattle.close_choice.proofs.Chain.{not-public, read-ends, scratch-ends, record_freed}
use Rattle.close_choice.proofs.ending.Goals as goal

pub returns-then-public : goal.returns-then-public
returns-then-public c = record {
  verdict = λ u o. not-public _ _ _ u o c.if-public.true;
  range = tt;
}

pub returns-then-permit-ne1 : goal.returns-then-permit-ne1
returns-then-permit-ne1 c = record {
  verdict = λ u o. read-ends _ _ _ u o c.if-public.false c.if-permit-ne1.true;
  range = tt;
}

pub returns-in-None : goal.returns-in-None
returns-in-None c = record {
  verdict = λ u o. scratch-ends _ _ _ u o c.if-public.false c.if-permit-ne1.false (omega arith);
  range = tt;
}

pub returns-in-Some : goal.returns-in-Some
returns-in-Some c = record {
  verdict = λ u o. record_freed _ _ _ u o c.if-public.false c.if-permit-ne1.false _ c.in-Some.ensures;
  range = omega arith;
}
