use borrow.Author.Rules.{rules}
use Rattle.call_write_run.proofs.Turns.{decided, dropping}
use Rattle.call_write_run.proofs.drop_stretch.Goals as goal

pub how_many_leave-count-requires : goal.how_many_leave-count-requires
how_many_leave-count-requires c = search dropping

pub on_by-requires : goal.on_by-requires
on_by-requires c = search dropping

pub put_opening-requires : goal.put_opening-requires
put_opening-requires c = search (decided, rules)

pub returns : goal.returns
returns c = search dropping
