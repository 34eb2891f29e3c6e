use Rattle.call_next_prev.proofs.Steps.{permits}
use Rattle.call_next_prev.proofs.readings.lacks_permit.Goals as goal

pub returns-then-pointer-which : goal.returns-then-pointer-which
returns-then-pointer-which c = search permits

pub returns : goal.returns
returns c = search permits
