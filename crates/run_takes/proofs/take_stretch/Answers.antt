use borrow.Author.Rules.{rules}
use Rattle.run_takes.proofs.Laws.{take-follows, took}
use Rattle.run_takes.proofs.take_stretch.Goals as goal

pub take_all-requires : goal.take_all-requires
take_all-requires c = record {
  segment_cells_in_bounds = search rules;
  le_first = (search rules, search rules, search rules, take-follows _ _ _ _ c.value-value.ensures c.requires.6);
}

pub returns : goal.returns
returns c = search took
