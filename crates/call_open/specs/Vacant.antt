-- The gate of an opening, with the store's cells s and the tables' t: "3 entry open at an opening". Assumes nothing.
use Rattle.std.specs.Prelude.{ℕ, ◌≡◌, false, List, length, Err, Ok}
use Rattle.rules.specs.Calls.{Way, opens}
use Rattle.tables.specs.Layout.{opening_at}
use Rattle.tables.specs.Fields.{is_open}
use Rattle.cells.specs.Outcomes.{outcome, request_out}
use Rattle.gate.specs.Gates.{Gate}
use Rattle.gate.specs.Passed.{Passed}

-- the entry is there and not open
pub record Vacant (s t : List ℕ) (u e i : ℕ) : Type 0 where
  pub passed : Passed (length s) t u e i
  pub closed : is_open (opening_at t i) ≡ false

-- what a refusal says of every opening, or that the entry can be opened
abbrev pub AtVacant : List ℕ → List ℕ → ℕ → ℕ → Gate → Type 0
AtVacant s t u e (Err why) = (w : Way) → outcome (Err why) s t ≡ request_out (opens w) s t u e
AtVacant s t u e (Ok i) = Vacant s t u e i
