-- An opening from the parts of its row, and the row from the tables. Assumes nothing.
use Prim.Native.Nat.{ℕ, ◌+◌, ◌-◌}
use mathlib.Core.Path.{◌≡◌, ap, ◌∙◌}
use mathlib.Core.List.{List, map}
use lib.ListN.{get_or, take, drop}
use Rattle.combine.specs.Lists.{part}
use Rattle.placing.specs.declared.Segment.{Segment}
use Rattle.placing.specs.declared.Position.{Position}
use Rattle.placing.specs.Placing.{segment, position}
use Rattle.tables.specs.declared.Opening.{Opening}
use Rattle.tables.specs.Layout.{opening_base, opening_of, opening_at}
use Rattle.combine.specs.Laws.Between.{part-between}

pub opening-of : (row : List ℕ) {name : List ℕ} {segments : List Segment} {pointers : List Position} → pointers ≡ map position (take 8 (drop 4 row)) → name ≡ take 12 (drop 12 row) → segments ≡ map segment (take 32 (drop 24 row))
    → ◌≡◌ {A = Opening} (record { opened = get_or row 0 0; place = get_or row 1 0; permit = get_or row 2 0; species = get_or row 3 0; pointers = pointers; name = name; segments = segments }) (opening_of row)
unfolding opening_of part
opening-of row p n s =
    λ j. record { opened = get_or row 0 0; place = get_or row 1 0; permit = get_or row 2 0; species = get_or row 3 0; pointers = p j; name = n j; segments = s j }

pub opening-between : (t : List ℕ) (i : ℕ) {o : Opening} → o ≡ opening_of (take (opening_base i + 56 - opening_base i) (drop (opening_base i) t)) → o ≡ opening_at t i
unfolding opening_at
opening-between t i e = e ∙ ap opening_of (part-between t (opening_base i) 56)
