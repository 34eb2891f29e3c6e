-- What an opening says of its record, as the code tests it. Assumes nothing.
use Rattle.std.specs.Prelude.{ℕ, Bool, not, ◌||◌, List, [], ◌∷◌, eqb, leb}
use Rattle.combine.specs.Rows.{all_of}
use Rattle.placing.specs.Sizes.{places}
use Rattle.tables.specs.declared.Opening.{Opening}
use Rattle.tables.specs.Layout.{opening_at}
use Rattle.tables.specs.Openings.{linkb, beside_recordb}

-- entry j is i, or its opening has not the record at place p
abbrev pub elsewhereb : List ℕ → ℕ → ℕ → ℕ → Bool
elsewhereb t i p j = eqb j i || not (eqb (opening_at t j).place p)

-- what an opening says of its record
unfoldable pub linkedb : List ℕ → ℕ → Opening → Bool
linkedb t i o = all_of (leb o.place places ∷ linkb t o ∷ beside_recordb t i o ∷ [])
