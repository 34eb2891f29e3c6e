-- A run as a caller in C is handed it: how many elements of his list are left unwritten. Assumes nothing.
use Rattle.std.specs.Prelude.{ℕ, length}
use Rattle.cells.specs.Outcomes.{Lent}
use Rattle.cells.specs.Runs.{Written}

pub record Unwritten : Type 0 where
  pub many : ℕ
  pub place : ℕ
  pub cells : Lent

unfoldable pub unwritten : (many place : ℕ) → Lent → Unwritten
unwritten k n x = record { many = k; place = n; cells = x }

abbrev pub unwritten_by : Written → Unwritten
unwritten_by w = unwritten (length w.rest) w.place w.cells
