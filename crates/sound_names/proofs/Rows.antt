-- What a row of cells says of its record. Assumes nothing.
use Prim.Native.Nat.{ℕ}
use mathlib.Core.Path.{◌≡◌, refl}
use mathlib.Core.List.{List}
use lib.ListN.{get_or}
use Rattle.tables.specs.Layout.{record_of}

pub owner-cell : (row : List ℕ) → get_or row 13 0 ≡ (record_of row).owner
unfolding record_of
owner-cell row = refl

pub private-flag : (row : List ℕ) → get_or row 14 0 ≡ (record_of row).private
unfolding record_of
private-flag row = refl
