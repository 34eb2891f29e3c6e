-- The records and openings that the code makes, by value. Assumes nothing.
use Prim.Native.Nat.{ℕ, ◌+◌}
use mathlib.Core.Path.{◌≡◌}
use mathlib.Core.Bool.{Bool, not}
use mathlib.Core.List.{◌∷◌}
use native.Mathlib.Numerals.{add-one}
use lib.ListN.{get_or, replicate}
use Rattle.names.specs.Names.{scratch_name}
use Rattle.placing.specs.declared.Segment.{Segment}
use Rattle.placing.specs.declared.Position.{Position}
use Rattle.placing.specs.Placing.{segment, position}
use Rattle.rules.specs.Rules.{work_start}
use Rattle.tables.specs.declared.Record.{Record}
use Rattle.tables.specs.declared.Opening.{Opening}
use Rattle.tables.specs.Layout.{unused_record, closed_opening}
use Rattle.tables.specs.Handles.{bit}
use Rattle.cells.specs.Laws.Catalogue.{new_opening, old_opening, filed_record}

pub new-made : (n : ℕ) (one none : Position) (g : Segment) → one ≡ position 1 → none ≡ position 0 → g ≡ segment 0
    → ◌≡◌ {A = Opening} (record { opened = 1; place = 0; permit = 1; species = n; pointers = one ∷ one ∷ one ∷ replicate 5 none; name = replicate 12 63; segments = replicate 32 g }) (new_opening n)
unfolding new_opening scratch_name
new-made n one none g a b d i =
    record { opened = 1; place = 0; permit = 1; species = n; pointers = a i ∷ a i ∷ a i ∷ replicate 5 (b i); name = replicate 12 63; segments = replicate 32 (d i) }

pub old-made : (w : Bool) (p : ℕ) (r : Record) (none start : Position) (k : ℕ) → none ≡ position 0 → start ≡ work_start w r.begin r.end → k ≡ bit w
    → ◌≡◌ {A = Opening} (record { opened = 1; place = p + 1; permit = k; species = r.species; pointers = r.begin ∷ r.end ∷ start ∷ replicate 5 none; name = r.name; segments = r.segments }) (old_opening w p r)
unfolding old_opening
old-made w p r none start k b s e i =
    record { opened = 1; place = add-one p i; permit = e i; species = r.species; pointers = r.begin ∷ r.end ∷ s i ∷ replicate 5 (b i); name = r.name; segments = r.segments }

module _ (none : Position) (g : Segment) (a : none ≡ position 0) (b : g ≡ segment 0) where
  pub unused-made : ◌≡◌ {A = Record} (record { used = 0; name = replicate 12 0; owner = 0; private = 0; species = 0; begin = none; end = none; segments = replicate 32 g }) unused_record
  unfolding unused_record
  unused-made i = record { used = 0; name = replicate 12 0; owner = 0; private = 0; species = 0; begin = a i; end = a i; segments = replicate 32 (b i) }

  pub closed-made : ◌≡◌ {A = Opening} (record { opened = 0; place = 0; permit = 0; species = 0; pointers = replicate 8 none; name = replicate 12 0; segments = replicate 32 g }) closed_opening
  unfolding closed_opening
  closed-made i = record { opened = 0; place = 0; permit = 0; species = 0; pointers = replicate 8 (a i); name = replicate 12 0; segments = replicate 32 (b i) }

pub filed-made : (public : Bool) (u : ℕ) (o : Opening) (k : ℕ) → k ≡ bit (not public)
    → ◌≡◌ {A = Record} (record { used = 1; name = o.name; owner = u; private = k; species = o.species; begin = get_or o.pointers 0 (position 0); end = get_or o.pointers 1 (position 0); segments = o.segments }) (filed_record public u o)
unfolding filed_record
filed-made public u o k e i =
    record { used = 1; name = o.name; owner = u; private = e i; species = o.species; begin = get_or o.pointers 0 (position 0); end = get_or o.pointers 1 (position 0); segments = o.segments }
