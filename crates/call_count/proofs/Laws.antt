-- The outcomes of the count of free segments, by what the code tests. Assumes nothing.
use Prim.Native.Nat.{ℕ, ◌≤◌, ◌<◌}
use mathlib.Core.Path.{◌≡◌, refl, ap}
use mathlib.Core.Bool.{true, false}
use mathlib.Core.List.{List}
use lib.ListN.{length}
use borrow.Author.Tests.{lt-ltb, le-ltb}
use Rattle.combine.specs.Laws.Below.{was-true, was-false}
use Rattle.combine.specs.Verdict.{done, refused, refuse◌when◌else◌}
use Rattle.combine.specs.Outcome.{outcome_of, settle}
use Rattle.placing.specs.Sizes.{greatest_user}
use Rattle.rules.specs.Gates.{user_gate}
use Rattle.segments.specs.Free.{free_count}
use Rattle.tables.specs.Sound.{soundb}
use Rattle.cells.specs.Says.{house_of}
use Rattle.cells.specs.Outcomes.{lent, free_out}

module _ (s t : List ℕ) (u : ℕ) where
  pub unsound : soundb (length s) t ≡ false → outcome_of (refused 20) (lent s t) ≡ free_out s t u
  unfolding free_out user_gate refuse◌when◌else◌ settle
  unsound h = rw h refl

  module _ (ok : soundb (length s) t ≡ true) where
    pub no-user : greatest_user < u → outcome_of (refused 1) (lent s t) ≡ free_out s t u
    unfolding free_out user_gate refuse◌when◌else◌ settle
    no-user l = rw (ok, lt-ltb greatest_user u l) refl

    pub counted : u ≤ greatest_user → (n : ℕ) → n ≡ free_count (house_of t) → outcome_of (done n) (lent s t) ≡ free_out s t u
    unfolding free_out user_gate refuse◌when◌else◌ settle
    counted l n e = rw (ok, le-ltb greatest_user u l) (ap (λ (k : ℕ). outcome_of (done k) (lent s t)) e)

pub ruleset counts = (unsound, no-user, counted, was-true, was-false)
