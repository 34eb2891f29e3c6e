-- Numbers by a row of cells: what each becomes. Assumes nothing.
use Rattle.std.specs.Prelude.{ℕ, get_or}
use Rattle.placing.specs.Sizes.{Cells}

abbrev pub mapped : (numbers : Cells) → ℕ → ℕ
mapped numbers g = get_or numbers g 0
