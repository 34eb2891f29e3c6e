-- `names::put_symbols` meets its contract: the places that both have are copied. Assumes nothing.
use borrow.Author.Rules.{rules}
use Rattle.names.proofs.Put.{put-shared}
use Rattle.names.proofs.put_symbols.Goals as goal

pub returns : goal.returns
returns c =
    let a = c.args in
    put-shared a.name a.row.now c.min-places.result (search rules) c.min-places.ensures c.copy_from_slice.ensures.after
