-- What the gate says of lent cells: a store of so many cells, the tables t, a user u, an entry e. Assumes nothing.
use Rattle.std.specs.Prelude.{ℕ, Bool, true, false, not, List, ltb, Result, Ok, Err}
use Rattle.answers.specs.declared.Refusal.{Refusal}
use Rattle.answers.specs.declared.Refusal.TheVariants.{User, Entry, Tables}
use Rattle.placing.specs.Sizes.{greatest_user, greatest_entry, entry_of}
use Rattle.tables.specs.Layout.{opening_at}
use Rattle.tables.specs.Fields.{is_open}
use Rattle.tables.specs.Sound.{soundb}

-- the entry that a call names, of 32, or the refusal
abbrev pub Gate : Type 0
Gate = Result ℕ Refusal

unfoldable pub refusing : Bool → Refusal → Gate → Gate
refusing true why g = Err why
refusing false why g = g

-- "Order: 20, 1, 2": the entry by its number, whether it is open or not
unfoldable pub pass_of : ℕ → List ℕ → ℕ → ℕ → Gate
pass_of cells t u e =
    refusing (not (soundb cells t)) Tables
    (refusing (ltb greatest_user u) User
    (refusing (ltb greatest_entry e) Entry
    (Ok (entry_of u e))))

-- "entry above 3, or not open where it must be"
abbrev pub opened : List ℕ → Gate → Gate
opened t (Err why) = Err why
opened t (Ok i) = refusing (not (is_open (opening_at t i))) Entry (Ok i)

unfoldable pub reach_of : ℕ → List ℕ → ℕ → ℕ → Gate
reach_of cells t u e = opened t (pass_of cells t u e)
