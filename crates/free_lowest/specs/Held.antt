-- The rows of the lists that hold a segment, without the empty ones. Assumes nothing.
use Rattle.std.specs.Prelude.{ℕ, ◌<◌, ◌≤◌, ◌≡◌, Bool, true, List, get_or}
use Rattle.combine.specs.Below.{all_below}
use Rattle.combine.specs.Lists.{part}
use Rattle.placing.specs.Sizes.{Cells}
use Rattle.tables.specs.Lists.{held_in}
use Rattle.free_count.specs.Rows.{start_of}
use Rattle.free_lowest.specs.declared.Row.{Row}

-- where there is none
abbrev pub no_row : Row
no_row = record { start = 0; count = 0 }

-- the numbers of a row
abbrev pub numbers_in : (tables : Cells) (row : Row) → Cells
numbers_in t r = part t r.start r.count

-- of the first i lists: a test that every empty row passes holds of the n rows exactly if it holds of the lists' rows
pub record HeldRows (t : List ℕ) (i n : ℕ) (rows : List Row) : Type 0 where
  pub few : n ≤ i
  pub every : (f : ℕ → ℕ → Bool) → ((j : ℕ) → j < i → f (start_of j) 0 ≡ true)
      → all_below n (λ q. f (get_or rows q no_row).start (get_or rows q no_row).count) ≡ all_below i (λ j. f (start_of j) (held_in t j))
