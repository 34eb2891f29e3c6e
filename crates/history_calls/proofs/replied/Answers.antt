use mathlib.Core.Path.{ap, sym, ◌∙◌}
use Rattle.answers.specs.Said.{Answer, said}
use Rattle.history_calls.specs.declared.Reply.TheVariants.{Refused}
use Rattle.history_calls.specs.Told.{reply_of}
use Rattle.history_calls.proofs.replied.Goals as goal

pub returns-in-Ok : goal.returns-in-Ok
returns-in-Ok c = cc

pub returns-in-Err : goal.returns-in-Err
returns-in-Err c = ap Refused c.number.ensures ∙ ap (λ (a : Answer). reply_of (said a)) (sym c.in-Err.is)
