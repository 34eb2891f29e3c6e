-- `call_fill_run::single` meets its contract. Assumes nothing.
use mathlib.Core.Path.{◌≡◌}
use borrow.Author.Rules.{rules}
use Rattle.std.specs.Prelude.{Err}
use Rattle.call_fill_run.proofs.Turns.{turns, single-stops, single-went}
use Rattle.call_fill_run.proofs.single.Goals as goal

pub deliver-requires : goal.deliver-requires
deliver-requires c = search (turns, rules)

pub returns-in_err-told : goal.returns-in_err-told
returns-in_err-told c =
    let pre = c.requires in
    let z : c.from_residual.result ≡ Err c.in_err-told.field-0.0 = search rules in
    single-stops _ _ _ _ pre.0 _ pre.1 _ _ _ _ c.deliver.ensures _ c.in_err-told.was _ z

pub returns : goal.returns
returns c =
    let pre = c.requires in
    single-went _ _ _ _ pre.0 _ pre.1 _ _ _ _ c.deliver.ensures _ c.in_ok-told.was pre.3
