-- The lists of segment numbers in the cells t: list i is that of record place i for i below 64, and that of entry i - 64 for i from 64 to 95.
-- When they are distinct. Assumes nothing.
use Rattle.std.specs.Prelude.{ℕ, ◌+◌, ◌-◌, Bool, true, ◌&&◌, cond, eqb, ltb}
use Rattle.placing.specs.Sizes.{Cells, places}
use Rattle.combine.specs.Below.{all_below}
use Rattle.placing.specs.Placing.{stretch_of}
use Rattle.tables.specs.Layout.{record_at, opening_at}
use Rattle.tables.specs.Fields.{held_by_record, held_by_opening, value_of, number_at}

-- how many segments list i has, its kth number, and that one's stretch
unfoldable pub held_in : (tables : Cells) (list : ℕ) → ℕ
held_in t i = cond (ltb i places) (held_by_record (record_at t i)) (held_by_opening (opening_at t (i - places)))

unfoldable pub listed : (tables : Cells) (list slot : ℕ) → ℕ
listed t i k = cond (ltb i places) (number_at (record_at t i).segments k) (number_at (opening_at t (i - places)).segments k)

unfoldable pub stretch_in : (tables : Cells) (list slot : ℕ) → ℕ
stretch_in t i k =
    let r = record_at t i in
    let o = opening_at t (i - places) in
    cond (ltb i places) (stretch_of r.species r.begin.0 + k) (stretch_of o.species (value_of o 0) + k)

-- whose file it is: a record's place; for an opening its record's place, or its own list number where it has none
unfoldable pub family_of : (tables : Cells) (list : ℕ) → ℕ
family_of t i =
    let o = opening_at t (i - places) in
    cond (ltb i places) i (cond (eqb o.place 0) i (o.place - 1))

-- the same as a test
unfoldable pub agree : (tables : Cells) (list slot list' slot' : ℕ) → Bool
agree t i k j l = cond (eqb (listed t i k) (listed t j l)) (eqb (family_of t i) (family_of t j) && eqb (stretch_in t i k) (stretch_in t j l)) true

unfoldable pub distinctb : (tables : Cells) (lists : ℕ) → Bool
distinctb t n = all_below n (λ i. all_below (held_in t i) (λ k. all_below n (λ j. all_below (held_in t j) (λ l. agree t i k j l))))
