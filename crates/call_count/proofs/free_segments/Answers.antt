-- `call_count::free_segments` meets its contract. Assumes nothing.
use lib.ListN.{length}
use Rattle.tables.specs.Laws.Sound.{ranged-of}
use Rattle.call_count.proofs.Laws.{counts}
use Rattle.call_count.proofs.free_segments.Goals as goal

pub free_count-number-requires : goal.free_count-number-requires
free_count-number-requires c = ranged-of (length c.args.store.now) _ (search counts)
