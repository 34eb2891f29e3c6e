use Rattle.history_calls.specs.Telling.{known}
use Rattle.history_calls.proofs.on_three.Goals as goal

pub returns-in-Next : goal.returns-in-Next
returns-in-Next c = search known

pub returns-in-Prev : goal.returns-in-Prev
returns-in-Prev c = search known

pub returns-in-New : goal.returns-in-New
returns-in-New c = search known

pub returns-in-Pointer : goal.returns-in-Pointer
returns-in-Pointer c = search known

pub returns-in-Delete : goal.returns-in-Delete
returns-in-Delete c = search known

pub returns-in-Symbol : goal.returns-in-Symbol
returns-in-Symbol c = search known

pub returns-in-Value : goal.returns-in-Value
returns-in-Value c = search known

pub returns-in-NextSigned : goal.returns-in-NextSigned
returns-in-NextSigned c = search known

pub returns-in-PrevSigned : goal.returns-in-PrevSigned
returns-in-PrevSigned c = search known
