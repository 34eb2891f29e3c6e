-- The door's version. Assumes nothing.
use Rattle.std.specs.Prelude.{ℕ}

-- grows by 1 with each change that a caller can notice
abbrev pub version : ℕ
version = 8
