-- `sound_lists::rows::opening_row` meets its contract. Assumes nothing.
use mathlib.Core.Path.{ap}
use Rattle.sound_lists.proofs.RowCells.{opening-extent, opening-row}
use Rattle.sound_lists.proofs.rows.opening_row.Goals as goal

pub row_at-requires : goal.row_at-requires
row_at-requires c =
    opening-extent c.args.tables.now c.requires.0 c.args.entry c.requires.1 c.requires.2 _ _ (ap (λ y. y.0) c.of.ensures) (ap (λ y. y.0) c.of-2.ensures)

pub returns : goal.returns
returns c =
    let r = c.row_at.ensures in
    opening-row c.args.tables.now c.requires.0 c.args.entry c.requires.1 c.requires.2 _ _ (ap (λ y. y.0) c.of.ensures) (ap (λ y. y.0) c.of-2.ensures) _ _ _
    r.0 r.1 r.2
