-- Positions of one stretch, one after another, and how many elements of a list go there. Assumes nothing.
use Rattle.std.specs.Prelude.{ℕ, ◌+◌, ◌≤◌, ◌<◌, ◌≡◌, true, false, List, get_or}
use Rattle.numbers.specs.declared.Number.TheVariants.{Plain}
use Rattle.numbers.specs.Numbers.{too_wide}
use Rattle.placing.specs.Placing.{stretch_of}

-- so many positions from the first on are of its stretch, and come before another
pub record Ahead (species first beyond many : ℕ) : Type 0 where
  pub some : 1 ≤ many
  pub before : first + many ≤ beyond
  pub same : (j : ℕ) → j < many → stretch_of species (first + j) ≡ stretch_of species first

-- so many positions from the first on are of its stretch
pub record Follow (species first many : ℕ) : Type 0 where
  pub same : (j : ℕ) → j < many → stretch_of species (first + j) ≡ stretch_of species first

-- the lower of two numbers
pub record Fewer (a b many : ℕ) : Type 0 where
  pub first : many ≤ a
  pub second : many ≤ b
  pub some : 1 ≤ a → 1 ≤ b → 1 ≤ many

-- number j of a list is not too wide for the species
abbrev pub Fits : (species : ℕ) (list : List ℕ) (j : ℕ) → Type 0
Fits s l j = too_wide s (Plain (get_or l j 0)) ≡ false

-- of so many numbers of a list, those before the first that is too wide
pub record Fitting (species : ℕ) (list : List ℕ) (most many : ℕ) : Type 0 where
  pub few : many ≤ most
  pub fit : (j : ℕ) → j < many → Fits species list j
  pub stops : many < most → too_wide species (Plain (get_or list many 0)) ≡ true
