-- `sound_records::each_sound` meets its contract: the records before place `p` are sound. Assumes nothing.
use mathlib.Core.Path.{◌≡◌}
use mathlib.Core.Bool.{true}
use Rattle.combine.specs.Below.{all_below}
use Rattle.tables.specs.Layout.{record_at}
use Rattle.tables.specs.Records.{recordb}
use Rattle.sound_records.proofs.each_sound.Given as goal

abbrev pub invariant-loop-p : goal.invariant-loop-p
invariant-loop-p l = all_below l.p (λ k. recordb l.segments (record_at l.tables k)) ≡ true
