-- Laws of tables/specs/Pointers.antt. Assumes nothing.
use Rattle.std.specs.Prelude.{ℕ, ◌≤◌, ◌<◌, ◌≡◌, List, length}
use Rattle.std.proofs.Math.Path.{ap}
use Rattle.std.proofs.Common.{arith, ⊎_elim}
use Rattle.std.proofs.Math.ListN.{get_or-map, get_or-eq_default}
use Rattle.combine.specs.Laws.Numbers.{le-or-lt}
use Rattle.placing.specs.Placing.{position}
use Rattle.rules.specs.Headings.{value, moved, named}
use Rattle.tables.specs.declared.Opening.{Opening}
use Rattle.tables.specs.Layout.{position_number}
use Rattle.tables.specs.Fields.{value_of}
use Rattle.tables.specs.Handles.{handle_in, pointed, handled}
use Rattle.tables.specs.Laws.Again.{positions-again, set_back}
use Rattle.tables.specs.Pointers.{titled}

module _ (o : Opening) where
  pub value_in : (p : ℕ) → value (handle_in o) p ≡ value_of o p
  unfolding value_of
  value_in p = get_or-map position_number o.pointers p (position 0)

  pub moved_in : (p v : ℕ) → handled o (moved (handle_in o) p v) ≡ pointed o p (position v)
  moved_in p v = λ j. record { opened = o.opened; place = o.place; permit = o.permit; species = o.species; pointers = set_back o.pointers p v j; name = o.name; segments = o.segments }

  pub named_in : (n : List ℕ) → handled o (named (handle_in o) n) ≡ titled o n
  named_in n = λ j. record { opened = o.opened; place = o.place; permit = o.permit; species = o.species; pointers = positions-again o.pointers j; name = n; segments = o.segments }

  -- a number above 7 is no pointer
  pub value_none : (p : ℕ) → length o.pointers ≡ 8 → 7 < p → value_of o p ≡ 0
  unfolding value_of
  value_none p e l = ap position_number (get_or-eq_default o.pointers (position 0) {n = p} (omega arith))

  pub value-some : (p : ℕ) → length o.pointers ≡ 8 → (value_of o p ≡ 0 → ⊥) → p ≤ 7
  value-some p e h = ⊎_elim (λ (l : p ≤ 7). l) (λ (l : 7 < p). absurd (h (value_none p e l))) (le-or-lt p 7)
