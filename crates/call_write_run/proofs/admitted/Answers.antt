-- `call_write_run::admitted` meets its contract. Assumes nothing.
use mathlib.Core.Path.{◌≡◌}
use borrow.Author.Rules.{rules}
use Rattle.std.specs.Prelude.{Err}
use Rattle.gate_laws.specs.Standing.{standing-long, standing-entry}
use Rattle.call_write_run.proofs.Going.{admitting, admit-refused, admit-standing}
use Rattle.call_write_run.proofs.admitted.Goals as goal

pub returns-in_err-at : goal.returns-in_err-at
returns-in_err-at c =
    let z : c.from_residual.result ≡ Err c.in_err-at.field-0.0 = search rules in
    admit-refused _ _ _ _ _ _ c.reach.ensures _ c.in_err-at.was _ z

pub load_opening-opening-requires : goal.load_opening-opening-requires
load_opening-opening-requires c =
    let w = admit-standing _ _ _ _ c.args.pointer _ c.reach.ensures _ c.in_ok-at.was in
    (standing-long w, standing-entry w)

pub returns-then-is_foreign : goal.returns-then-is_foreign
returns-then-is_foreign c = search (admitting, c.in_ok-at.was)

pub returns-then-is_none : goal.returns-then-is_none
returns-then-is_none c = search (admitting, c.in_ok-at.was)

pub returns-then-opening-ne1 : goal.returns-then-opening-ne1
returns-then-opening-ne1 c = search (admitting, c.in_ok-at.was)

pub returns : goal.returns
returns c = search (admitting, c.in_ok-at.was)
