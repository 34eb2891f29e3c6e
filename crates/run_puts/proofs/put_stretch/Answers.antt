use borrow.Author.Rules.{rules}
use Rattle.run_puts.proofs.Laws.{stretches, stretch-follows}
use Rattle.run_puts.proofs.put_stretch.Goals as goal

pub put_all-requires : goal.put_all-requires
put_all-requires c =
    let many = c.how_many-count.ensures in
    let at = c.value-value.ensures in
    record {
      segment_cells_in_bounds = search rules;
      le_first = (search rules, search rules, many.few, stretch-follows _ _ _ at _ _ many);
    }

pub returns : goal.returns
returns c = search stretches
