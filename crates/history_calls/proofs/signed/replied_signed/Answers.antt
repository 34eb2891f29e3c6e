use borrow.Author.Rules.{rules}
use mathlib.Core.Path.{ap, sym, ◌∙◌}
use mir.Syntax.{w32}
use mir.Val.{SFits}
use mir.ValLaws.{to_z-of_z}
use Rattle.answers.specs.Said.{SignedAnswer, said_signed}
use Rattle.history_calls.specs.declared.Reply.TheVariants.{DoneSigned, Refused}
use Rattle.history_calls.specs.Told.{reply_signed}
use Rattle.history_calls.proofs.signed.replied_signed.Goals as goal

pub returns-in-Ok : goal.returns-in-Ok
returns-in-Ok c =
    let z = c.in-Ok.number in
    let f : SFits w32 z = search rules in
    ap DoneSigned (to_z-of_z w32 z f) ∙ ap (λ (a : SignedAnswer). reply_signed (said_signed a)) (sym c.in-Ok.is)

pub returns-in-Err : goal.returns-in-Err
returns-in-Err c = ap Refused c.number.ensures ∙ ap (λ (a : SignedAnswer). reply_signed (said_signed a)) (sym c.in-Err.is)
