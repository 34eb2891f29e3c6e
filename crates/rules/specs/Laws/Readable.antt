-- What the laws of rules/specs/Readable.antt speak of; they stand in proofs/Laws/Readable.antt. Assumes nothing.
use Rattle.std.specs.Prelude.{ℕ, Bool, true, not, ◌&&◌, List}
use Rattle.std.proofs.Math.Option.{Option, none, some}
use Rattle.std.proofs.Math.Dec.{T}
use Rattle.combine.specs.Lists.{any}
use Rattle.rules.specs.Headings.{Heading, passes}
use Rattle.rules.specs.Readable.{may_read}

-- what is at a place, if anything is
abbrev pub may_read_at : (user : ℕ) → Option Heading → Bool
may_read_at u none = true
may_read_at u (some r) = may_read u r

-- no record that passes the test may be read by the user
abbrev pub NoneThere : (user : ℕ) → (Heading → Bool) → List (Option Heading) → Type 0
NoneThere u f rs = T (not (any (passes (λ r. may_read u r && f r)) rs))
