use Rattle.history_calls.specs.Telling.{known}
use Rattle.history_calls.proofs.by_name.on_name.Goals as goal

pub returns-in-Work : goal.returns-in-Work
returns-in-Work c = search known

pub returns-in-Read : goal.returns-in-Read
returns-in-Read c = search known

pub returns-in-Rename : goal.returns-in-Rename
returns-in-Rename c = search known
