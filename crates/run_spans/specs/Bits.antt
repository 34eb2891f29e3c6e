-- Elements of one stretch by the bits before them. Assumes nothing.
use Rattle.std.specs.Prelude.{ℕ, ◌+◌, ◌*◌, ◌/◌, ◌%◌, ◌≤◌, ◌<◌}

-- an element of a width after so many bits lies in one cell, of so many cells
pub record Lies (cells bits width : ℕ) : Type 0 where
  pub there : bits / 32 < cells
  -- 2^43, all bits of 2^32 segments
  pub few : bits < 8796093022208
  pub some : 1 ≤ width
  pub inside : bits % 32 + width ≤ 32

-- so do so many elements, one after another
pub record Row (cells bits width many : ℕ) : Type 0 where
  pub lie : (j : ℕ) → j < many → Lies cells (bits + j * width) width
