use Rattle.run_puts.proofs.Laws.{stretch-many}
use Rattle.run_puts.proofs.how_many.Goals as goal

pub returns : goal.returns
returns c =
    let pre = c.requires in
    stretch-many _ _ _ c.value-value.ensures _ _ c.limit-beyond.ensures _ c.ahead-most.ensures _ _ c.fewer-left.ensures c.fitting.ensures pre.1 pre.2
