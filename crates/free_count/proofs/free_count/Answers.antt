-- `free_count::free_count` meets its contract: the marks are zero at first, and then only the free numbers are unmarked. Assumes nothing.
use Rattle.free_count.proofs.Marks.{free-counted}
use Rattle.free_count.proofs.free_count.Goals as goal

pub returns : goal.returns
returns c =
    free-counted c.args.tables.now c.mark_lists.new.marks _ c.unmarked.ensures c.mark_lists.ensures.by_index
