use Rattle.gate.specs.Gates.{pass_of}
use Rattle.gate.proofs.Laws.{ways}
use Rattle.gate.proofs.pass.Goals as goal

pub returns-then-not-sound : goal.returns-then-not-sound
unfolding pass_of
returns-then-not-sound c = search ways depth 10

pub returns-then-user-gt-GREATEST_USER : goal.returns-then-user-gt-GREATEST_USER
unfolding pass_of
returns-then-user-gt-GREATEST_USER c = search ways depth 10

pub returns-then-entry-gt-GREATEST_ENTRY : goal.returns-then-entry-gt-GREATEST_ENTRY
unfolding pass_of
returns-then-entry-gt-GREATEST_ENTRY c = search ways depth 10

pub returns : goal.returns
unfolding pass_of
returns c = search ways depth 10
