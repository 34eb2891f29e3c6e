-- The kinds of segments, as a row of cells: which are to move, and which can take them. Assumes nothing.
use Rattle.std.specs.Prelude.{ℕ, Bool, eqb, get_or}
use Rattle.placing.specs.Sizes.{Cells}

abbrev pub to_move : ℕ
to_move = 1

abbrev pub can_take : ℕ
can_take = 2

-- segment g is of the kind
abbrev pub is_kind : (kinds : Cells) (kind segment : ℕ) → Bool
is_kind kinds kind g = eqb (get_or kinds g 0) kind
