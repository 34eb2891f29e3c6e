-- `moves_carry::renumber_records` meets its contract. Assumes nothing.
use mathlib.Core.Path.{ap, ◌∙◌}
use Rattle.moves_carry.specs.Numbers.{mapped}
use Rattle.cells.specs.Moved.{renumbered_at}
use Rattle.moves_carry.proofs.Records.{first-start, first-turn, next-ok}
use Rattle.moves_carry.proofs.renumber_records.Goals as goal

pub loop-place-init : goal.loop-place-init
loop-place-init c = first-start (mapped c.args.numbers.now) c.args.tables.now c.requires

pub renumber_at-requires : goal.renumber_at-requires
renumber_at-requires c =
    let l = c.loop-place in
    let n = next-ok (mapped c.args.numbers.now) c.args.tables.now c.requires l.place c.loop-place-test.true l.tables l.invariant in
    (n.0, c.loop-place-test.true, n.1, n.2)

pub loop-place-preserved : goal.loop-place-preserved
loop-place-preserved c =
    let l = c.loop-place in
    let f = mapped c.args.numbers.now in
    c.renumber_at.ensures ∙ ap (renumbered_at f l.place) l.invariant ∙ first-turn f c.args.tables.now c.requires l.place
