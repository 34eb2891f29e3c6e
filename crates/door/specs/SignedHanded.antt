-- A signed answer as a caller in C or Rust is handed it: one number, below 0 too. Assumes nothing.
use Rattle.std.specs.Prelude.{◌+◌, ◌<◌, ℤ, pos, negsuc}
use Rattle.combine.specs.Verdict.{Verdict, done, refused, on_done}
use Rattle.cells.specs.Outcomes.{Lent}
use Rattle.cells.specs.Signed.{SignedOutcome}
use Rattle.door.specs.Handed.{first_refused, unpacked}

-- the number of a signed answer: done is its number, refused is 2^32 and the refusal's number
abbrev pub packed_signed : (answer : Verdict ℤ) → ℤ
packed_signed (done z) = z
packed_signed (refused n) = pos (first_refused + n)

-- a signed answer that a number can be: a done number is below 2^32
abbrev pub PacksSigned : (answer : Verdict ℤ) → Type 0
PacksSigned (done (pos n)) = n < first_refused
PacksSigned (done (negsuc k)) = Unit {0}
PacksSigned (refused n) = Unit {0}

-- the signed answer that a number is: done where it is below 0, else the plain answer that it is
unfoldable pub unpacked_signed : (number : ℤ) → Verdict ℤ
unpacked_signed (pos m) = on_done pos (unpacked m)
unpacked_signed (negsuc k) = done (negsuc k)

-- the outcome that a caller is handed: the number, and all of the cells afterwards
unfoldable pub handed_signed : (number : ℤ) (after : Lent) → SignedOutcome
handed_signed z x = record { answer = unpacked_signed z; after = x }
