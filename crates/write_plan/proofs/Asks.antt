-- Whether a segment is the record's too, as the code's steps give its premises. Assumes nothing.
use Prim.Native.Nat.{ℕ, ◌-◌, ◌≤◌}
use mathlib.Core.Path.{◌≡◌, sym, ap, ◌∙◌}
use mathlib.Core.Bool.{Bool, false}
use mathlib.Core.List.{List}
use native.Mathlib.Omega.{arith}
use borrow.Author.Tests.{eq-eqb}
use Rattle.placing.specs.Placing.{held_of}
use Rattle.tables.specs.declared.Record.{Record}
use Rattle.tables.specs.declared.Opening.{Opening}
use Rattle.tables.specs.Layout.{record_at}
use Rattle.tables.specs.Fields.{record_for}
use Rattle.opening_laws.specs.Shared.{lists_number, shares_number, shares-none, shares-listed}
use Rattle.gate_laws.specs.Known.{Known}

module _ (t : List ℕ) (o : Opening) (g : ℕ) where
  pub no-record : o.place ≡ 0 → false ≡ shares_number t o g
  no-record e = sym (shares-none t o g e)

  -- the record that was loaded, from place x
  module _ (w : Known t o) (x : ℕ) (ex : (1 ≤ o.place) × (x ≡ o.place - 1)) (r : Record) (er : r ≡ record_at t x) where
    filed : o.place ≡ 0 → ⊥
    filed z = omega (arith, ex.0)

    own : r ≡ record_at t (o.place - 1)
    own = er ∙ ap (record_at t) ex.1

    module _ (h : ℕ) (eh : h ≡ held_of r.species r.begin.0 r.end.0) where
      pub record-shares : (b : Bool) → b ≡ lists_number r.segments h g → b ≡ shares_number t o g
      record-shares b e =
          e ∙ ap (λ (n : ℕ). lists_number r.segments n g) eh
          ∙ ap (λ (y : Record). lists_number y.segments (held_of y.species y.begin.0 y.end.0) g) own
          ∙ sym (shares-listed t o g filed w.placed (eq-eqb (record_for t o).used 1 (w.filed filed).used))
