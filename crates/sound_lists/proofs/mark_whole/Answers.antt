-- `sound_lists::mark_whole` meets its contract. Assumes nothing.
use Rattle.sound_lists.proofs.RowCells.{lent-low, lent-marked}
use Rattle.sound_lists.proofs.mark_whole.Goals as goal

pub mark_row-requires : goal.mark_row-requires
mark_row-requires c =
    lent-low c.args.tables.now c.args.row.start c.args.row.held c.requires.inside c.requires.low

pub returns : goal.returns
returns c =
    lent-marked c.args.tables.now c.args.row.start c.args.row.held c.requires.inside _ _ c.mark_row.ensures
