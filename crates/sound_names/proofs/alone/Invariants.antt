-- `sound_names::alone` meets its contract: no record before place `q` clashes. Assumes nothing.
use mathlib.Core.Path.{◌≡◌}
use mathlib.Core.Bool.{true, not}
use Rattle.combine.specs.Below.{all_below}
use Rattle.tables.specs.Layout.{record_at}
use Rattle.tables.specs.Records.{clash}
use Rattle.sound_names.proofs.alone.Given as goal

abbrev pub invariant-loop-q : goal.invariant-loop-q
invariant-loop-q l = all_below l.q (λ k. not (clash (record_at l.tables l.p) (record_at l.tables k))) ≡ true
