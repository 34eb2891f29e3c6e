-- What a segment is to a tidying. Assumes nothing.
use Rattle.std.specs.Prelude.{ℕ, cond, eqb, ltb, leb}
use Rattle.moves_pairs.specs.Kinds.{to_move, can_take}

-- the mark is 0 where no list names the segment; so many are listed
unfoldable pub kind_of : (mark segment listed : ℕ) → ℕ
kind_of m g low = cond (eqb m 0) (cond (ltb g low) can_take 0) (cond (leb low g) to_move 0)
