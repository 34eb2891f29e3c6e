-- Elements one after another in one segment: s is the store's cells, t the tables', i an entry of 32, o its opening, p a pointer, g a segment.
-- Assumes nothing.
use Rattle.std.specs.Prelude.{ℕ, ◌+◌, ◌*◌, ◌/◌, ◌%◌, ◌≤◌, ◌<◌, ◌≡◌, List, get_or}
use Rattle.std.proofs.Math.Seq.{paste}
use Rattle.packing.specs.Packing.{take_bits}
use Rattle.combine.specs.Lists.{tab}
use Rattle.placing.specs.declared.Segment.{Segment}
use Rattle.placing.specs.Sizes.{Cells, greatest_end, greatest_species, all_pointers}
use Rattle.placing.specs.Placing.{position, stretch_of}
use Rattle.store.specs.Store.{element_at}
use Rattle.tables.specs.declared.Opening.{Opening}
use Rattle.tables.specs.Layout.{put_opening}
use Rattle.tables.specs.Fields.{value_of}
use Rattle.tables.specs.Handles.{pointed}

-- so many elements, from a position on
unfoldable pub taken : (store : Cells) (species : ℕ) → Segment → (first many : ℕ) → List ℕ
taken s k g v n = tab n (λ j. element_at s k g (position (v + j)))

-- so many, each of a width, one after another from some bits on
unfoldable pub taken_row : (store : Cells) (bits width many : ℕ) → List ℕ
taken_row s b w n = tab n (λ j. take_bits w ((b + j * w) % 32) (get_or s ((b + j * w) / 32) 0))

-- the pointer's value is a position of the file
pub record Points (o : Opening) (p : ℕ) : Type 0 where
  pub species : o.species ≤ greatest_species
  pub known : p < all_pointers
  pub some : 1 ≤ value_of o p
  pub before : value_of o p < value_of o 1
  pub last : value_of o 1 ≤ greatest_end

-- so many positions from the pointer's on, of so many that are left, are of the file and of one stretch
pub record Far (o : Opening) (p left many : ℕ) : Type 0 where
  pub few : many ≤ left
  pub before : value_of o p + many ≤ value_of o 1
  pub same : (j : ℕ) → j < many → stretch_of o.species (value_of o p + j) ≡ stretch_of o.species (value_of o p)
  -- "Through 0 the element leaves the file.": the begin afterwards is of the file and of the stretch too
  pub begin : p ≡ 0 → (value_of o p + many < value_of o 1) × (stretch_of o.species (value_of o p + many) ≡ stretch_of o.species (value_of o p))

-- so many elements are in the list from a place on, and the pointer is behind them; the tables are t' then, the list l'
pub record Took (s t : List ℕ) (i : ℕ) (o : Opening) (p : ℕ) (g : Segment) (l : List ℕ) (place many : ℕ) (t' l' : List ℕ) : Type 0 where
  pub list : l' ≡ paste l place (taken s o.species g (value_of o p) many) many
  pub tables : t' ≡ put_opening t i (pointed o p (position (value_of o p + many)))
