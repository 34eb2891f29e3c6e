-- What the caller of a run has afterwards: document 02, P1. Assumes nothing.
use Rattle.std.specs.Prelude.{ℕ, List}
use Rattle.combine.specs.Run.{Ran}
use Rattle.rules.specs.Calls.{writes, fills}
use Rattle.rules.specs.Runs.{list_after}
use Rattle.cells.specs.Outcomes.{Lent}

-- "the writer hands back the unwritten rest of the caller's own list, and puts that refusal's number, or 0, in a lent place"
pub record Written : Type 0 where
  pub rest : List ℕ
  pub place : ℕ
  pub cells : Lent

unfoldable pub written : (rest : List ℕ) (place : ℕ) → Lent → Written
written l n x = record { rest = l; place = n; cells = x }

abbrev pub written_by : (pointer : ℕ) (list : List ℕ) → Ran Lent → Written
written_by p l r = written (list_after (writes p l) r) r.stop r.after

-- "The fill answers how many it filled, puts the number in a lent place likewise, and leaves the places it didn't reach as they were."
pub record Filled : Type 0 where
  pub many : ℕ
  pub place : ℕ
  pub list : List ℕ
  pub cells : Lent

unfoldable pub filled : (many place : ℕ) (list : List ℕ) → Lent → Filled
filled k n l x = record { many = k; place = n; list = l; cells = x }

abbrev pub filled_by : (pointer : ℕ) (list : List ℕ) → Ran Lent → Filled
filled_by p l r = filled r.many r.stop (list_after (fills p l) r) r.after
