-- "tables of wrong length or unsound, or store under 64 cells": of every call that looks at what the tables hold, and of a start, which looks at the
-- lengths alone. Assumes nothing.
use Rattle.std.specs.Prelude.{refl}
use Rattle.combine.specs.Laws.Below.{not-both}
use Rattle.combine.specs.Verdict.{refuse◌when◌else◌}
use Rattle.combine.specs.Outcome.{settle}
use Rattle.rules.specs.Calls.{fresh, load, save, count, tidy, starts, asks, arranges, on, runs}
use Rattle.rules.specs.Gates.{user_gate, entry_gate, start_gate, image_gate, still_gate}
use Rattle.cells.specs.Outcomes.{request_out, run_out, free_out, fresh_out, load_out, save_out, tidy_out}
use Rattle.demands.specs.Demands.{RefusesUnsound, RefusesLengths}

pub refuses-unsound : RefusesUnsound
unfolding request_out run_out free_out save_out tidy_out user_gate entry_gate start_gate image_gate still_gate settle refuse◌when◌else◌
refuses-unsound (starts c) x s e = absurd (not-both refl s)
refuses-unsound (asks (save img)) x s e = rw e refl
refuses-unsound (asks (count u)) x s e = rw e refl
refuses-unsound (arranges tidy) x s e = rw e refl
refuses-unsound (on u k r) x s e = rw e refl
refuses-unsound (runs u k r) x s e = rw e refl

pub refuses-lengths : RefusesLengths
unfolding fresh_out load_out start_gate image_gate settle refuse◌when◌else◌
refuses-lengths fresh x e = rw e refl
refuses-lengths (load img) x e = rw e refl
