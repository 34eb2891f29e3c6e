-- `bench_door::dorrivand_measure_sound` meets its contract. Assumes nothing.
use mathlib.Core.Path.{sym, ◌∙◌}
use Rattle.bench_door.proofs.dorrivand_measure_sound.Goals as goal

pub returns-then-sound : goal.returns-then-sound
returns-then-sound c = rw (sym c.sound.ensures ∙ c.if-sound.true)

pub returns : goal.returns
returns c = rw (sym c.sound.ensures ∙ c.if-sound.false)
