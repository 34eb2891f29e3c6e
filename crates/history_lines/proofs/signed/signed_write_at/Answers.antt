use Rattle.std.proofs.Common.{rules, SFits}
use mir.Syntax.{w32}
use Rattle.history_lines.specs.Signing.{signing}
use Rattle.history_lines.proofs.signed.signed_write_at.Goals as goal

pub returns-in_err-user : goal.returns-in_err-user
returns-in_err-user c = search (signing, c.in_err-user.ensures)

pub returns-in_err-pointer : goal.returns-in_err-pointer
returns-in_err-pointer c = search (signing, c.in_ok-user.ensures, c.in_err-pointer.ensures)

pub returns-in_err-number : goal.returns-in_err-number
returns-in_err-number c = search (signing, c.in_ok-user.ensures, c.in_ok-pointer.ensures, c.in_err-number.ensures)

pub returns : goal.returns
returns c =
    let z = c.in_ok-number.number in
    let fits : SFits w32 z = search rules in
    search (signing, fits, c.in_ok-user.ensures, c.in_ok-pointer.ensures, c.in_ok-number.ensures)
