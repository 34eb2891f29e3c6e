use Rattle.history_calls.specs.Telling.{known}
use Rattle.history_calls.proofs.on_two.Goals as goal

pub returns-in-Close : goal.returns-in-Close
returns-in-Close c = search known

pub returns-in-Public : goal.returns-in-Public
returns-in-Public c = search known

pub returns-in-Abandon : goal.returns-in-Abandon
returns-in-Abandon c = search known

pub returns-in-Reset : goal.returns-in-Reset
returns-in-Reset c = search known

pub returns-in-Species : goal.returns-in-Species
returns-in-Species c = search known

pub returns-in-Claim : goal.returns-in-Claim
returns-in-Claim c = search known

pub returns-in-Permit : goal.returns-in-Permit
returns-in-Permit c = search known

pub returns-in-Begin : goal.returns-in-Begin
returns-in-Begin c = search known

pub returns-in-End : goal.returns-in-End
returns-in-End c = search known
