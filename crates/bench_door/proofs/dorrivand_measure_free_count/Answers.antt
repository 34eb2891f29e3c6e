-- `bench_door::dorrivand_measure_free_count` meets its contract: sound tables are in range. Assumes nothing.
use Rattle.combine.specs.Laws.Below.{was-true, was-false}
use Rattle.tables.specs.Laws.Sound.{ranged-of}
use Rattle.bench_door.proofs.dorrivand_measure_free_count.Goals as goal

pub returns-then-not-sound : goal.returns-then-not-sound
returns-then-not-sound c = rw (was-false c.if-not-sound.true-raw c.sound.ensures)

pub free_count-requires : goal.free_count-requires
free_count-requires c = ranged-of _ _ (was-true c.if-not-sound.false-raw c.sound.ensures)

pub returns : goal.returns
returns c = rw (was-true c.if-not-sound.false-raw c.sound.ensures) c.free_count.ensures
