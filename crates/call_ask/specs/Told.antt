-- An inquiry that one cell of an opening answers. Assumes nothing.
use Rattle.std.specs.Prelude.{ℕ, ◌+◌, List, get_or, Err, Ok}
use Rattle.answers.specs.Said.{Answer}
use Rattle.tables.specs.Layout.{opening_base}
use Rattle.gate.specs.Gates.{Gate}

-- of the tables t, the cell of opening i that has this number of 56
unfoldable pub field_at : List ℕ → ℕ → ℕ → ℕ
field_at t i number = get_or t (opening_base i + number) 0

-- the gate's refusal, or what the cell says
unfoldable pub told : List ℕ → ℕ → Gate → Answer
told t number (Err why) = Err why
told t number (Ok i) = Ok (field_at t i number)
