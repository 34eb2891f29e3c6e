use Rattle.door.proofs.SignedNumbers.{signed-calls}
use Rattle.door.proofs.signed.dorrivand_prev_signed.Goals as goal

pub returns : goal.returns
returns c = search signed-calls
