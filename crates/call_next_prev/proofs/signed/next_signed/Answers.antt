use Rattle.call_next_prev.proofs.Calls.{reads}
use Rattle.call_next_prev.proofs.signed.next_signed.Goals as goal

pub returns : goal.returns
returns c = search reads
