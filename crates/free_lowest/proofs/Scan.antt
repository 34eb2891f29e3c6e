-- A scan of the rows for the number g, from the row `first` on and round. Assumes nothing.
use Prim.Native.Nat.{ℕ, ◌+◌, ◌-◌, ◌≤◌, ◌<◌}
use mathlib.Core.Path.{◌≡◌, sym, ap, ◌∙◌}
use mathlib.Core.Bool.{true, false, not}
use mathlib.Core.List.{List}
use native.Mathlib.Omega.{arith}
use lib.ListN.{length, get_or}
use Rattle.combine.specs.Below.{all_below}
use Rattle.combine.specs.Laws.Below.{all-zero, all_more}
use Rattle.combine.specs.Lists.{is_in}
use Rattle.placing.specs.Sizes.{lists}
use Rattle.segments.specs.Free.{is_free}
use Rattle.tables.specs.Laws.Sound.{Ranged}
use Rattle.cells.specs.Says.{house_of}
use Rattle.free_lowest.specs.declared.Row.{Row}
use Rattle.free_lowest.specs.Held.{HeldRows, no_row, numbers_in}
use Rattle.free_lowest.specs.Round.{wrapped, wrapped-low, round-start, round-turn, round-all}
use Rattle.free_lowest.proofs.Search.{lacks, rows-free}

-- k rows are scanned, and `row` is the next; where there is no row, it is 0
pub record Scanned (t : List ℕ) (rows : List Row) (first g k row : ℕ) : Type 0 where
  pub low : row ≤ length rows - 1
  pub next : row ≡ wrapped (length rows) (first + k)
  pub none : all_below k (λ j. lacks t rows g (wrapped (length rows) (first + j))) ≡ true

module _ (t : List ℕ) (rows : List Row) (first g : ℕ) (l : first ≤ length rows - 1) where
  pub scan-start : Scanned t rows first g 0 first
  scan-start = record { low = l; next = round-start (length rows) first l; none = all-zero _ }

  pub scan-turn : (k row r : ℕ) → k < length rows → Scanned t rows first g k row → is_in g (numbers_in t (get_or rows row no_row)) ≡ false → r ≡ wrapped (length rows) (row + 1) → Scanned t rows first g (k + 1) r
  scan-turn k row r m h e a =
      record {
        low = let b = wrapped-low (length rows) (row + 1) (omega (arith, h.low)) in omega arith;
        next = a ∙ ap (λ (q : ℕ). wrapped (length rows) (q + 1)) h.next ∙ round-turn (length rows) first k (omega arith) m;
        none = all_more _ k h.none (ap (lacks t rows g) (sym h.next) ∙ ap not e);
      }

  pub scan-done : Ranged t → HeldRows t lists (length rows) rows → (k row : ℕ) → k ≡ length rows → Scanned t rows first g k row → is_free (house_of t) g ≡ true
  scan-done w held k row e h =
      rows-free t w rows held g ∙ round-all (length rows) first (lacks t rows g) (omega arith) (ap (λ (x : ℕ). all_below x (λ j. lacks t rows g (wrapped (length rows) (first + j)))) (sym e) ∙ h.none)
