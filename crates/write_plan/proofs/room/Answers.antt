-- `write_plan::room` meets its contract. Assumes nothing.
use Rattle.write_plan.proofs.Seats.{rooms}
use Rattle.write_plan.proofs.room.Goals as goal

pub returns-then-tables-number : goal.returns-then-tables-number
returns-then-tables-number c = search rooms

pub returns : goal.returns
returns c = search rooms
