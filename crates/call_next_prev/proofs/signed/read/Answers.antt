-- `signed::read` meets its contract. Assumes nothing.
use Rattle.std.proofs.Common.{◌≡◌, Err, rules}
use Rattle.call_next_prev.proofs.Calls.{reads}
use Rattle.call_next_prev.proofs.signed.read.Goals as goal

pub returns-in_err-bits : goal.returns-in_err-bits
returns-in_err-bits c =
    let z : c.from_residual.result ≡ Err c.in_err-bits.field-0.0 = search rules in
    search (reads, c.in_err-bits.was, z)

pub returns : goal.returns
returns c = search (reads, c.in_ok-bits.was)
