-- `call_fill_run::advance` meets its contract. Assumes nothing.
use mathlib.Core.Path.{◌≡◌}
use borrow.Author.Rules.{rules}
use Rattle.std.specs.Prelude.{Err}
use Rattle.call_fill_run.proofs.Turns.{far-follows, turns, reading-stops}
use Rattle.call_fill_run.proofs.advance.Goals as goal

pub load_opening-opening-requires : goal.load_opening-opening-requires
load_opening-opening-requires c = search (turns, rules)

pub read-requires : goal.read-requires
read-requires c = search (turns, rules)

pub returns-in_err-reading : goal.returns-in_err-reading
returns-in_err-reading c =
    let z : c.from_residual.result ≡ Err c.in_err-reading.field-0.0 = search rules in
    reading-stops _ _ _ _ c.requires.0 _ c.load_opening-opening.ensures _ _ _ c.read.ensures _ c.in_err-reading.was _ z

pub how_far-count-requires : goal.how_far-count-requires
how_far-count-requires c = search (turns, rules, c.in_ok-reading.was)

pub take_stretch-requires : goal.take_stretch-requires
take_stretch-requires c =
    let at = c.in_ok-reading.was in
    (search (turns, rules, at), search (turns, rules, at), search (turns, rules, at), search (turns, rules, at), search rules, search rules, search (far-follows, rules))

pub returns : goal.returns
returns c = search (turns, rules, c.in_ok-reading.was)
