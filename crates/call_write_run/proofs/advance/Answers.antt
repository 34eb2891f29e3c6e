use mathlib.Core.Path.{◌≡◌}
use borrow.Author.Rules.{rules}
use Rattle.std.specs.Prelude.{Err}
use Rattle.gate_laws.specs.Standing.{standing-long, standing-entry, standing-fits}
use Rattle.gate_laws.specs.Known.{standing, standing-known}
use Rattle.call_write.proofs.Loaded.{standing-species}
use Rattle.call_write_run.proofs.Turns.{decide-stops, stretch-points, stretch-first, stretch-fits, stretch-turned}
use Rattle.call_write_run.proofs.advance.Goals as goal

pub load_opening-opening-requires : goal.load_opening-opening-requires
load_opening-opening-requires c = search (standing, rules)

pub is_too_wide_plain-wide-requires : goal.is_too_wide_plain-wide-requires
is_too_wide_plain-wide-requires c = search standing-species

pub decide-requires : goal.decide-requires
decide-requires c = search (standing, rules)

pub put_stretch-count-requires : goal.put_stretch-count-requires
put_stretch-count-requires c =
    let lent = c.args in
    let pre = c.requires in
    let known = standing-known lent.store.now _ _ pre.0 _ c.load_opening-opening.ensures in
    let here = c.in-Put.is in (
      standing-long pre.0,
      standing-entry pre.0,
      stretch-fits _ _ _ _ _ c.decide.ensures _ c.in_ok-plan.was _ here lent.store.now (standing-fits pre.0),
      stretch-points _ _ _ _ _ c.decide.ensures _ c.in_ok-plan.was _ here known,
      pre.1,
      stretch-first _ _ _ _ _ c.decide.ensures _ c.in_ok-plan.was _ here known lent.list.now c.is_too_wide_plain-wide.ensures,
    )

pub returns-in-Put : goal.returns-in-Put
returns-in-Put c = search (stretch-turned, c.in_ok-plan.was)

pub returns-in_err-plan : goal.returns-in_err-plan
returns-in_err-plan c =
    let z : c.from_residual.result ≡ Err c.in_err-plan.field-0.0 = search rules in
    decide-stops _ _ _ _ _ _ c.requires.0 c.load_opening-opening.ensures _ c.is_too_wide_plain-wide.ensures _ c.decide.ensures _ c.in_err-plan.was _ z
