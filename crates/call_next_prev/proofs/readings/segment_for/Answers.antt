use Rattle.call_next_prev.proofs.Steps.{places}
use Rattle.call_next_prev.proofs.readings.segment_for.Goals as goal

pub bounds-opening-place : goal.bounds-opening-place
bounds-opening-place c = search places

pub returns : goal.returns
returns c = search places
