-- `sound_extents::extent_sound` meets its contract. Assumes nothing.
use Prim.Native.Nat.{ℕ}
use mathlib.Core.Path.{ap}
use borrow.Author.Tests.{le-leb, lt-leb}
use lib.Dec.{leb}
use Rattle.combine.specs.Laws.Rows.{one-bad, all-last}
use Rattle.tables.specs.Records.{extentb}
use Rattle.sound_extents.specs.Extent.{held_at}
use Rattle.sound_extents.proofs.extent_sound.Goals as goal

pub returns-then-species-gt-GREATEST_SPECIES : goal.returns-then-species-gt-GREATEST_SPECIES
unfolding extentb
returns-then-species-gt-GREATEST_SPECIES c = one-bad _ 0 (lt-leb _ _ c.if-species-gt-GREATEST_SPECIES.true)

pub returns-then-begin-lt1 : goal.returns-then-begin-lt1
unfolding extentb
returns-then-begin-lt1 c = one-bad _ 1 (lt-leb _ _ c.if-begin-lt1.true)

pub returns-then-end-begin : goal.returns-then-end-begin
unfolding extentb
returns-then-end-begin c = one-bad _ 2 (lt-leb _ _ c.if-end-begin.true)

pub returns : goal.returns
unfolding extentb
returns c =
    let a = c.args in
    all-last _ _ (
      le-leb _ _ c.if-species-gt-GREATEST_SPECIES.false,
      (
        le-leb _ _ c.if-begin-lt1.false,
        (
          le-leb _ _ c.if-end-begin.false,
          (
            le-leb _ _ c.if-end-gt-GREATEST_END.false,
            ap (λ (h : ℕ). leb h 32) (held_at a.species a.begin a.end _ _ _ c.of.ensures c.of-2.ensures c.held.ensures),
          ),
        ),
      ),
    )
