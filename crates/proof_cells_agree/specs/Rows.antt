-- A row of tests that hold, one fact after the other: `row _ (p also q also enough)`. Assumes nothing.
use Rattle.std.specs.Prelude.{◌≡◌, refl, Bool, true, List, [], ◌∷◌}
use Rattle.combine.specs.Laws.Below.{both}
use Rattle.combine.specs.Rows.{all_of}

infixr 4 ◌also◌
pub data Hold : List Bool → Type 0 where
  enough : Hold []
  ◌also◌ : {b : Bool} {bs : List Bool} → b ≡ true → Hold bs → Hold (b ∷ bs)

pub row : (bs : List Bool) → Hold bs → all_of bs ≡ true
unfolding all_of
row [] enough = refl
row (b ∷ bs) (p also ps) = both p (row bs ps)
