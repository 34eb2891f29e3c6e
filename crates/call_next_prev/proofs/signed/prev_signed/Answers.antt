use Rattle.call_next_prev.proofs.Calls.{reads}
use Rattle.call_next_prev.proofs.signed.prev_signed.Goals as goal

pub returns : goal.returns
returns c = search reads
