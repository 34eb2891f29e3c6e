-- A record from the parts of its row, and the row from the tables. Assumes nothing.
use Prim.Native.Nat.{ℕ, ◌+◌, ◌-◌}
use mathlib.Core.Path.{◌≡◌, ap, ◌∙◌}
use mathlib.Core.List.{List, map}
use lib.ListN.{get_or, take, drop}
use Rattle.combine.specs.Lists.{part}
use Rattle.placing.specs.declared.Segment.{Segment}
use Rattle.placing.specs.declared.Position.{Position}
use Rattle.placing.specs.Placing.{segment, position}
use Rattle.tables.specs.declared.Record.{Record}
use Rattle.tables.specs.Layout.{record_base, record_of, record_at}
use Rattle.combine.specs.Laws.Between.{part-between}

pub record-of : (row : List ℕ) {name : List ℕ} {segments : List Segment} {begin end : Position} → name ≡ take 12 (drop 1 row) → begin ≡ position (get_or row 16 0) → end ≡ position (get_or row 17 0) → segments ≡ map segment (take 32 (drop 18 row))
    → ◌≡◌ {A = Record} (record { used = get_or row 0 0; name = name; owner = get_or row 13 0; private = get_or row 14 0; species = get_or row 15 0; begin = begin; end = end; segments = segments }) (record_of row)
unfolding record_of part
record-of row n b e s =
    λ j. record { used = get_or row 0 0; name = n j; owner = get_or row 13 0; private = get_or row 14 0; species = get_or row 15 0; begin = b j; end = e j; segments = s j }

pub record-between : (t : List ℕ) (p : ℕ) {r : Record} → r ≡ record_of (take (record_base p + 50 - record_base p) (drop (record_base p) t)) → r ≡ record_at t p
unfolding record_at
record-between t p e = e ∙ ap record_of (part-between t (record_base p) 50)
