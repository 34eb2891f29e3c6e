-- A pass over the lists of the tables t that marks the own segments of each: those that are not its record's at the same stretch.
-- Assumes nothing.
use Rattle.std.specs.Prelude.{ℕ, ◌+◌, ◌≤◌, ◌<◌, ◌≡◌, ◌⊎◌, true, false, List, length}
use Rattle.placing.specs.Sizes.{most_segments, lists}
use Rattle.tables.specs.Lists.{held_in, listed}
use Rattle.tables.specs.Laws.Lists.{Distinct}
use Rattle.sound_lists.specs.Marks.{is_marked, standing}
use Rattle.sound_lists.specs.Shared.{sharedb}

-- place l of list j is own, and comes before place k of list i
pub record Own (t : List ℕ) (i k j l : ℕ) : Type 0 where
  pub before : (j < i) ⊎ ((j ≡ i) × (l < k))
  pub held : l < held_in t j
  pub own : sharedb t j l ≡ false

-- n marks were set, those of the own places before place k of list i, and all stand: no two of these places have one number
pub record Once (t : List ℕ) (i k : ℕ) (m : List ℕ) (n : ℕ) : Type 0 where
  pub long : length m ≡ most_segments
  pub counted : standing m ≡ n
  pub marked : (j l : ℕ) → Own t i k j l → is_marked m (listed t j l) ≡ true
  pub listing : (s : ℕ) → is_marked m s ≡ true → (j : ℕ) × (l : ℕ) × Own t i k j l × (listed t j l ≡ s)
  pub once : (j l j' l' : ℕ) → Own t i k j l → Own t i k j' l' → listed t j l ≡ listed t j' l' → (j ≡ j') × (l ≡ l')

-- n marks were set and fewer stand: one was set twice
pub record Twice (t m : List ℕ) (n : ℕ) : Type 0 where
  pub long : length m ≡ most_segments
  pub fewer : standing m < n
  pub clash : Distinct t lists → ⊥

abbrev pub Passed : (tables : List ℕ) (list slot : ℕ) (marks : List ℕ) (set : ℕ) → Type 0
Passed t i k m n = Once t i k m n ⊎ Twice t m n

-- the lists from i to j - 1 are marked, with c marks, c at most so many
pub record Passes (t : List ℕ) (i j : ℕ) (m m' : List ℕ) (c most : ℕ) : Type 0 where
  pub few : c ≤ most
  pub passes : (n : ℕ) → Passed t i 0 m n → Passed t j 0 m' (n + c)
