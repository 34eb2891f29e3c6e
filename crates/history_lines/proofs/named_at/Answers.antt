use Rattle.history_lines.specs.Naming.{naming}
use Rattle.history_lines.proofs.named_at.Goals as goal

pub returns-in_err-user : goal.returns-in_err-user
returns-in_err-user c = search (naming, c.in_err-user.ensures)

pub returns-in_err-entry : goal.returns-in_err-entry
returns-in_err-entry c = search (naming, c.in_ok-user.ensures, c.in_err-entry.ensures)

pub returns : goal.returns
returns c = search (naming, c.in_ok-user.ensures, c.in_ok-entry.ensures)
