-- The pointers of an opening as its handle has them, and the opening with the handle afterwards. Assumes nothing.
use Rattle.std.specs.Prelude.{ℕ, ◌+◌, List, map, eqb, drop}
use Rattle.combine.specs.Lists.{first_where}
use Rattle.placing.specs.Sizes.{first_own_pointer}
use Rattle.tables.specs.declared.Opening.{Opening}
use Rattle.tables.specs.Layout.{position_number}

-- "A new own pointer takes the lowest free name": 8, where none of 3 to 7 is free
unfoldable pub lowest_free_pointer : Opening → ℕ
lowest_free_pointer o = first_own_pointer + first_where (eqb 0) (drop first_own_pointer (map position_number o.pointers))

-- the opening with another name
abbrev pub titled : Opening → List ℕ → Opening
titled o n = record { opened = o.opened; place = o.place; permit = o.permit; species = o.species; pointers = o.pointers; name = n; segments = o.segments }
