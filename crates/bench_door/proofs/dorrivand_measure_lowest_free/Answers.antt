-- `bench_door::dorrivand_measure_lowest_free` meets its contract: sound tables are in range. Assumes nothing.
use mathlib.Core.Path.{sym, ap, ◌∙◌}
use Rattle.placing.specs.declared.Segment.{Segment}
use Rattle.tables.specs.Laws.Sound.{ranged-of}
use Rattle.bench_door.proofs.dorrivand_measure_lowest_free.Goals as goal

pub lowest_free-requires : goal.lowest_free-requires
lowest_free-requires c = ranged-of _ _ (sym c.sound.ensures ∙ c.if-sound.true)

pub returns-then-sound : goal.returns-then-sound
returns-then-sound c =
    rw (sym c.sound.ensures ∙ c.if-sound.true)
    (c.number.ensures ∙ ap (λ (g : Segment). g.0) c.lowest_free.ensures)

pub returns : goal.returns
returns c = rw (sym c.sound.ensures ∙ c.if-sound.false)
