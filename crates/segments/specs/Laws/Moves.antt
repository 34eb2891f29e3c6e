-- Laws of segments/specs/Moves.antt. Assumes nothing.
use Rattle.std.specs.Prelude.{ℕ, ◌+◌, ◌*◌, ◌<◌, length, get_or}
use Rattle.std.proofs.Common.{arith}
use Rattle.combine.specs.Below.{picked}
use Rattle.combine.specs.Laws.Pairs.{paired-from, paired-to, paired-within}
use Rattle.combine.specs.Laws.Picked.{picked-rises}
use Rattle.segments.specs.Free.{SegmentHouse, is_free}
use Rattle.segments.specs.Moves.{listed_count, is_high, tidy_moves}

-- "in rising order": of two pairs the later has the higher from and the higher to
pub tidy-rises : (h : SegmentHouse) (j k : ℕ) → j < k → 2 * k + 1 < length (tidy_moves h)
    → (get_or (tidy_moves h) (2 * j) 0 < get_or (tidy_moves h) (2 * k) 0) × (get_or (tidy_moves h) (2 * j + 1) 0 < get_or (tidy_moves h) (2 * k + 1) 0)
unfolding tidy_moves
tidy-rises h j k l m =
    let xs = picked h.segments (is_high h) in
    let ys = picked (listed_count h) (is_free h) in
    let w = paired-within xs ys k m in (
      omega (
        arith,
        paired-from xs ys j (omega (arith, w.0)) (omega (arith, w.1)),
        paired-from xs ys k w.0 w.1,
        picked-rises h.segments (is_high h) j k l w.0,
      ),
      omega (
        arith,
        paired-to xs ys j (omega (arith, w.0)) (omega (arith, w.1)),
        paired-to xs ys k w.0 w.1,
        picked-rises (listed_count h) (is_free h) j k l w.1,
      ),
    )
