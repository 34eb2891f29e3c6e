-- `Direction::deliver` meets its contract. Assumes nothing.
use Rattle.std.proofs.Common.{◌≡◌, Err, rules}
use Rattle.call_next_prev.proofs.Calls.{calls, read-found}
use Rattle.call_next_prev.proofs.Delivers.{arms}
use Rattle.call_next_prev.proofs.Direction.deliver.Goals as goal

pub returns-in_err-reading : goal.returns-in_err-reading
returns-in_err-reading c =
    let z : c.from_residual.result ≡ Err c.in_err-reading.field-0.0 = search rules in
    search (calls, c.in_err-reading.was, z)

pub after-after-requires : goal.after-after-requires
after-after-requires c =
    let a = c.args in
    let found = read-found a.self a.store.now a.tables.now a.entry a.signed a.pointer a.opening _ c.requires.4 _ c.in_ok-reading.was in
    search (arms, found)

pub take_element-element-requires : goal.take_element-element-requires
take_element-element-requires c =
    let a = c.args in
    let found = read-found a.self a.store.now a.tables.now a.entry a.signed a.pointer a.opening _ c.requires.4 _ c.in_ok-reading.was in
    search (arms, found)

pub returns : goal.returns
returns c = search (arms, calls, c.in_ok-reading.was)
