-- `sound::number_sound` meets its contract. Assumes nothing.
use mathlib.Core.Path.{refl}
use borrow.Author.Tests.{le-leb, lt-leb}
use Rattle.combine.specs.Laws.Rows.{one-bad, all-last}
use Rattle.tables.specs.Sound.{numberb}
use Rattle.sound.proofs.number_sound.Goals as goal

pub returns-then-segments-lt1 : goal.returns-then-segments-lt1
unfolding numberb
returns-then-segments-lt1 c = one-bad _ 0 (lt-leb _ _ c.if-segments-lt1.true)

pub returns-then-segments-gt-MOST_SEGMENTS : goal.returns-then-segments-gt-MOST_SEGMENTS
unfolding numberb
returns-then-segments-gt-MOST_SEGMENTS c = one-bad _ 1 (lt-leb _ _ c.if-segments-gt-MOST_SEGMENTS.true)

pub returns : goal.returns
unfolding numberb
returns c = all-last _ _ (le-leb _ _ c.if-segments-lt1.false, (le-leb _ _ c.if-segments-gt-MOST_SEGMENTS.false, refl))
