-- An answer as a caller in C or Rust is handed it: one number. Assumes nothing.
use Rattle.std.specs.Prelude.{ℕ, ◌+◌, ◌-◌, ◌<◌, cond, ltb}
use Rattle.combine.specs.Verdict.{Said, done, refused}
use Rattle.combine.specs.Outcome.{Outcome, outcome_of}

-- 2^32: a done number is a cell's, and so below it
abbrev pub first_refused : ℕ
first_refused = 4294967296

-- the number of an answer: done is its number, refused is 2^32 and the refusal's number
abbrev pub packed : (answer : Said) → ℕ
packed (done n) = n
packed (refused n) = first_refused + n

-- an answer that a number can be: a done number is below 2^32
abbrev pub Packs : (answer : Said) → Type 0
Packs (done n) = n < first_refused
Packs (refused n) = Unit {0}

-- the answer that a number is
unfoldable pub unpacked : (number : ℕ) → Said
unpacked m = cond (ltb m first_refused) (done m) (refused (m - first_refused))

-- the outcome that a caller is handed: the number, and all of the state afterwards
unfoldable pub handed : {S : Type 0} → (number : ℕ) (after : S) → Outcome S
handed m x = outcome_of (unpacked m) x
