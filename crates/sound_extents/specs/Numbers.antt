-- Segments and positions of a row of cells, by their numbers. Assumes nothing.
use Rattle.std.specs.Prelude.{ℕ, ◌≡◌, List, map, get_or}
use Rattle.std.proofs.Common.{ap}
use Rattle.std.proofs.Math.ListN.{get_or-map}
use Rattle.placing.specs.Placing.{segment, position}
use Rattle.tables.specs.Layout.{segment_number, position_number}
use Rattle.tables.specs.Fields.{number_at}

pub segment-number : (l : List ℕ) (k : ℕ) → number_at (map segment l) k ≡ get_or l k 0
segment-number l k = ap segment_number (get_or-map segment l k 0)

pub position-number : (l : List ℕ) (k : ℕ) → (get_or (map position l) k (position 0)).0 ≡ get_or l k 0
position-number l k = ap position_number (get_or-map position l k 0)
