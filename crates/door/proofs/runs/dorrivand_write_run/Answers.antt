use Rattle.door.specs.Laws.Runs.{unwritten-here}
use borrow.Author.Rules.{rules}
use Rattle.door.proofs.runs.dorrivand_write_run.Goals as goal

pub returns : goal.returns
returns c = search (unwritten-here, rules)
