-- `tables_openings::load_opening` meets its contract. Assumes nothing.
use Rattle.tables_openings.proofs.Loaded.{opening-between}
use Rattle.tables_openings.proofs.load_opening.Goals as goal

pub returns : goal.returns
returns c =
    let a = c.args in
    opening-between a.tables.now a.entry c.opening_from.ensures
