-- What a user may read of the catalogue. Assumes nothing.
use Rattle.std.specs.Prelude.{ℕ, Bool, false, not, ◌||◌, cond, map, eqb}
use Rattle.std.proofs.Math.Option.{Option, none, some}
use Rattle.names.specs.Names.{name_of}
use Rattle.rules.specs.Calls.{Way, new, work, read}
use Rattle.rules.specs.Headings.{Heading}
use Rattle.rules.specs.House.{House, house}
use Rattle.rules.specs.Rules.{has_name}

-- "each record that user may read, his own and the public"
abbrev pub may_read : (user : ℕ) → Heading → Bool
may_read u r = not r.private || eqb r.owner u

-- what passes; nothing, in place of what does not
abbrev pub only : {A : Type 0} → (A → Bool) → Option A → Option A
only f none = none
only f (some a) = cond (f a) (some a) none

-- with the catalogue from which all private files of others are taken away; the rest keep their places
abbrev pub readable_by : {C B : Type 0} → (user : ℕ) → House C B → House C B
readable_by u h = house h.segments (map (only (λ r. may_read u r.head)) h.records) h.openings

-- the record has the name by which is opened
abbrev pub asks_for : Way → Heading → Bool
asks_for (new s) r = false
asks_for (work bytes) r = has_name (name_of bytes) r
asks_for (read bytes) r = has_name (name_of bytes) r
