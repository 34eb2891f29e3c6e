-- An opening's extent and list, as its row's cells have them. Assumes nothing.
use Prim.Native.Nat.{ℕ}
use mathlib.Core.Path.{◌≡◌, ◌∙◌}
use mathlib.Core.Bool.{Bool}
use mathlib.Core.List.{List, map}
use lib.ListN.{get_or}
use Rattle.combine.specs.Lists.{part}
use Rattle.placing.specs.Placing.{segment}
use Rattle.tables.specs.Layout.{opening_of}
use Rattle.sound_extents.specs.Extent as extent
use Rattle.sound_reading.specs.Cells.{extent-cells}
use Rattle.sound_openings.specs.Opened.{contentb}

pub content : {r : Bool} (n : ℕ) (row : List ℕ) → r ≡ extent.contentb n (get_or row 3 0) (get_or row 4 0) (get_or row 5 0) (map segment (part row 24 32)) → r ≡ contentb n (opening_of row)
unfolding contentb opening_of
content n row e = e ∙ extent-cells (λ s b e. extent.contentb n s b e (map segment (part row 24 32))) row
