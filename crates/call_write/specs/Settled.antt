-- A plan carried out, and the act that writes a number. Assumes nothing.
use Rattle.std.specs.Prelude.{ℕ, ◌+◌, ◌≤◌, ◌<◌, List}
use Rattle.combine.specs.Verdict.{Verdict, done}
use Rattle.combine.specs.Outcome.{Outcome, outcome_of}
use Rattle.placing.specs.declared.Segment.{Segment}
use Rattle.placing.specs.Sizes.{greatest_end, greatest_species}
use Rattle.placing.specs.Placing.{position}
use Rattle.store.specs.Store.{put_element}
use Rattle.numbers.specs.declared.Number.{Number}
use Rattle.numbers.specs.declared.Number.TheVariants.{Plain, Signed}
use Rattle.rules.specs.Calls.{Act, write, write_signed}
use Rattle.rules.specs.Effects.{Use}
use Rattle.tables.specs.declared.Opening.{Opening}
use Rattle.tables.specs.Layout.{put_opening}
use Rattle.tables.specs.Fields.{value_of}
use Rattle.tables.specs.Handles.{pointed}
use Rattle.cells.specs.Outcomes.{Lent, lent}
use Rattle.write_plan.specs.Plans.{Decision, Planned}

-- the element goes to segment g, "v grows by 1"
unfoldable pub settled : List ℕ → List ℕ → ℕ → Opening → ℕ → ℕ → Segment → Outcome Lent
settled s t i o p n g =
    outcome_of (done 0) (lent (put_element s o.species g (position (value_of o p)) n) (put_opening t i (pointed o p (position (value_of o p + 1)))))

-- pointer p of the opening has a value, and one more is a position
pub record Moves (o : Opening) (p : ℕ) : Type 0 where
  pub species : o.species ≤ greatest_species
  pub known : p < 8
  pub some : 1 ≤ value_of o p
  pub small : value_of o p < greatest_end

-- the decision is one by some verdict on the bits of each number
abbrev pub Chosen : List ℕ → Opening → ℕ → Decision → Type 0
Chosen t o p decision = (verdict : ℕ → Verdict Use) × Planned t o p verdict decision

-- the act, by the kind of its number
abbrev pub write_of : (pointer : ℕ) → Number → Act
write_of p (Plain n) = write p n
write_of p (Signed z) = write_signed p z
