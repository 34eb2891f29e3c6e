-- `call_write_run::single` meets its contract. Assumes nothing.
use mathlib.Core.Path.{◌≡◌}
use borrow.Author.Rules.{rules}
use Rattle.std.specs.Prelude.{Err}
use Rattle.call_write_run.proofs.Turns.{decided, step-stops, step_went}
use Rattle.call_write_run.proofs.single.Goals as goal

pub carry-requires : goal.carry-requires
carry-requires c = search (decided, rules)

pub returns-in_err-carry : goal.returns-in_err-carry
returns-in_err-carry c =
    let z : c.from_residual.result ≡ Err c.in_err-carry.field-0.0 = search rules in
    step-stops _ _ _ _ _ _ _ c.requires _ _ _ c.carry.ensures _ c.in_err-carry.was _ z

pub returns : goal.returns
returns c = step_went _ _ _ _ _ _ _ c.requires _ _ _ c.carry.ensures _ c.in_ok-carry.was
