-- The row of cells of the tables t that has the segment numbers of list i: where it starts, how many it has, and the stretch of the first.
-- Assumes nothing.
use Rattle.std.specs.Prelude.{ℕ, ◌+◌, ◌≤◌, ◌<◌, ◌≡◌, List, length, get_or}
use Rattle.placing.specs.Sizes.{most_held, most_segments}
use Rattle.tables.specs.Lists.{held_in, listed, stretch_in}

-- the kth cell of the row that starts there
abbrev pub cell_from : (tables : List ℕ) (start k : ℕ) → ℕ
cell_from t start k = get_or t (start + k) 0

-- a row of segment numbers; the stretches can be counted in 32 bits
pub record RowIn (t : List ℕ) (start n first : ℕ) : Type 0 where
  pub inside : start + n ≤ length t
  pub few : n ≤ most_held
  pub low : (k : ℕ) → k < n → cell_from t start k < most_segments
  pub fits : first + most_held < 4294967296

pub record RowOf (t : List ℕ) (i start n first : ℕ) : Type 0 where
  pub row : RowIn t start n first
  pub held : n ≡ held_in t i
  pub number : (k : ℕ) → k < n → cell_from t start k ≡ listed t i k
  pub stretch : (k : ℕ) → first + k ≡ stretch_in t i k
