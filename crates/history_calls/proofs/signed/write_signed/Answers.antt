use Rattle.std.proofs.Common.{rules, SFits}
use mir.Syntax.{w32}
use Rattle.history_calls.specs.Telling.{known, parted, signed-write}
use Rattle.history_calls.proofs.signed.write_signed.Goals as goal

pub returns-in_default : goal.returns-in_default
returns-in_default c = search parted

pub returns : goal.returns
returns c =
    let w = c.in-Some.asked in
    let fits : SFits w32 w.number = search rules in
    signed-write _ _ _ _ w.user w.entry w.pointer w.number fits c.in-Some.is (search known)
