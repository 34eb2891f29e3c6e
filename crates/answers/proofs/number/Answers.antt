-- `answers::number` meets its contract. Assumes nothing.
use mathlib.Core.Path.{ap, sym}
use Rattle.answers.specs.Said.{refusal_number}
use Rattle.answers.proofs.number.Goals as goal

pub returns-in-User : goal.returns-in-User
returns-in-User c = sym (ap refusal_number c.in-User.is)

pub returns-in-Entry : goal.returns-in-Entry
returns-in-Entry c = sym (ap refusal_number c.in-Entry.is)

pub returns-in-Open : goal.returns-in-Open
returns-in-Open c = sym (ap refusal_number c.in-Open.is)

pub returns-in-Pointer : goal.returns-in-Pointer
returns-in-Pointer c = sym (ap refusal_number c.in-Pointer.is)

pub returns-in-Permit : goal.returns-in-Permit
returns-in-Permit c = sym (ap refusal_number c.in-Permit.is)

pub returns-in-Below : goal.returns-in-Below
returns-in-Below c = sym (ap refusal_number c.in-Below.is)

pub returns-in-Beyond : goal.returns-in-Beyond
returns-in-Beyond c = sym (ap refusal_number c.in-Beyond.is)

pub returns-in-Segments : goal.returns-in-Segments
returns-in-Segments c = sym (ap refusal_number c.in-Segments.is)

pub returns-in-Room : goal.returns-in-Room
returns-in-Room c = sym (ap refusal_number c.in-Room.is)

pub returns-in-Positions : goal.returns-in-Positions
returns-in-Positions c = sym (ap refusal_number c.in-Positions.is)

pub returns-in-Unknown : goal.returns-in-Unknown
returns-in-Unknown c = sym (ap refusal_number c.in-Unknown.is)

pub returns-in-NoWork : goal.returns-in-NoWork
returns-in-NoWork c = sym (ap refusal_number c.in-NoWork.is)

pub returns-in-NotNow : goal.returns-in-NotNow
returns-in-NotNow c = sym (ap refusal_number c.in-NotNow.is)

pub returns-in-Empty : goal.returns-in-Empty
returns-in-Empty c = sym (ap refusal_number c.in-Empty.is)

pub returns-in-Taken : goal.returns-in-Taken
returns-in-Taken c = sym (ap refusal_number c.in-Taken.is)

pub returns-in-Place : goal.returns-in-Place
returns-in-Place c = sym (ap refusal_number c.in-Place.is)

pub returns-in-Public : goal.returns-in-Public
returns-in-Public c = sym (ap refusal_number c.in-Public.is)

pub returns-in-Species : goal.returns-in-Species
returns-in-Species c = sym (ap refusal_number c.in-Species.is)

pub returns-in-Tables : goal.returns-in-Tables
returns-in-Tables c = sym (ap refusal_number c.in-Tables.is)

pub returns-in-Pointers : goal.returns-in-Pointers
returns-in-Pointers c = sym (ap refusal_number c.in-Pointers.is)

pub returns-in-Image : goal.returns-in-Image
returns-in-Image c = sym (ap refusal_number c.in-Image.is)

pub returns-in-Wide : goal.returns-in-Wide
returns-in-Wide c = sym (ap refusal_number c.in-Wide.is)

pub returns-in-Far : goal.returns-in-Far
returns-in-Far c = sym (ap refusal_number c.in-Far.is)
