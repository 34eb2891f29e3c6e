-- Begin and end of an opening are in range, and stay so when they move by one. Assumes nothing.
use Rattle.std.specs.Prelude.{ℕ, ◌≤◌, ◌<◌, ◌≡◌, ◌≢◌, length}
use Rattle.std.proofs.Math.Path.{ap}
use Rattle.std.proofs.Common.{◌∙◌, arith, get_or-set_same, get_or-set_other}
use Rattle.placing.specs.declared.Position.{Position}
use Rattle.placing.specs.Sizes.{greatest_species, greatest_end}
use Rattle.placing.specs.Placing.{position, held_of}
use Rattle.tables.specs.declared.Opening.{Opening}
use Rattle.tables.specs.Layout.{position_number}
use Rattle.tables.specs.Fields.{value_of}
use Rattle.tables.specs.Handles.{pointed}
use Rattle.opening_laws.specs.Back.{OpenFile}

pub record Spans (o : Opening) : Type 0 where
  pub species : o.species ≤ greatest_species
  pub first : 1 ≤ value_of o 0
  pub order : value_of o 0 ≤ value_of o 1
  pub last : value_of o 1 ≤ greatest_end

pub file-spans : (o : Opening) → OpenFile o → Spans o
file-spans o w = record { species = w.species; first = w.first; order = w.order; last = w.last }

-- ---- an opening m of which pointer p is at x

module _ (o : Opening) (p : ℕ) (x : Position) where
  value_there : length o.pointers ≡ 8 → p < 8 → value_of (pointed o p x) p ≡ x.0
  unfolding value_of
  value_there e l = ap position_number (get_or-set_same o.pointers p x (position 0) (omega arith))

  value-other : (q : ℕ) → q ≢ p → value_of (pointed o p x) q ≡ value_of o q
  unfolding value_of
  value-other q d = ap position_number (get_or-set_other o.pointers p q x (position 0) d)

module _ (o m : Opening) (w : OpenFile o) (x : Position) where
  -- the begin at x
  module _ (em : m ≡ pointed o 0 x) where
    begin-at : value_of m 0 ≡ x.0
    begin-at = ap (λ (y : Opening). value_of y 0) em ∙ value_there o 0 x w.pointers8 (omega arith)

    end_stays : value_of m 1 ≡ value_of o 1
    end_stays = ap (λ (y : Opening). value_of y 1) em ∙ value-other o 0 x 1 (λ q. omega arith)

    pub begin-spans : 1 ≤ x.0 → x.0 ≤ value_of o 1 → Spans m
    begin-spans l h =
        let s : m.species ≡ o.species = ap (λ (y : Opening). y.species) em in
        let a = w.species in
        let b = w.last in
        record { species = omega arith; first = omega (arith, begin-at); order = omega (arith, begin-at, end_stays); last = omega (arith, end_stays) }

    pub begin-holds : held_of m.species (value_of m 0) (value_of m 1) ≡ held_of o.species x.0 (value_of o 1)
    begin-holds = λ i. held_of (em i).species (begin-at i) (end_stays i)

  -- the end at x
  module _ (em : m ≡ pointed o 1 x) where
    end-at : value_of m 1 ≡ x.0
    end-at = ap (λ (y : Opening). value_of y 1) em ∙ value_there o 1 x w.pointers8 (omega arith)

    begin-stays : value_of m 0 ≡ value_of o 0
    begin-stays = ap (λ (y : Opening). value_of y 0) em ∙ value-other o 1 x 0 (λ q. omega arith)

    pub end-spans : value_of o 0 ≤ x.0 → x.0 ≤ greatest_end → Spans m
    end-spans l h =
        let s : m.species ≡ o.species = ap (λ (y : Opening). y.species) em in
        let a = w.species in
        let b = w.first in
        record { species = omega arith; first = omega (arith, begin-stays); order = omega (arith, begin-stays, end-at); last = omega (arith, end-at) }

    pub end-holds : held_of m.species (value_of m 0) (value_of m 1) ≡ held_of o.species (value_of o 0) x.0
    end-holds = λ i. held_of (em i).species (begin-stays i) (end-at i)
