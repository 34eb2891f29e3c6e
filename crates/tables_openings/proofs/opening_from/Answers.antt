-- `tables_openings::opening_from` meets its contract. Assumes nothing.
use Rattle.tables_openings.proofs.Loaded.{opening-of}
use Rattle.tables_openings.proofs.opening_from.Goals as goal

pub returns : goal.returns
returns c =
    opening-of c.args.row.now c.pointers_from-pointers.ensures c.name_from-name.ensures c.segments_from-segments.ensures
