-- What a house has at its places and entries, that the cells t say: the record and the opening behind it. Assumes nothing.
use Rattle.std.specs.Prelude.{ℕ, ◌-◌, ◌<◌, Bool, List, get_or}
use native.Mathlib.Omega.{arith}
use Rattle.std.proofs.Math.Path.{◌≡◌, refl, sym}
use Rattle.std.proofs.Common.{◌∙◌, eqb-true}
use Rattle.std.proofs.Math.Bool.{true, false}
use Rattle.std.proofs.Math.Option.{Option, none, some}
use Rattle.std.proofs.Math.ListN.{get_or-map}
use Rattle.combine.specs.Laws.Lists.{tab-at}
use Rattle.placing.specs.Sizes.{places, entries}
use Rattle.placing.specs.Placing.{position, held_of}
use Rattle.rules.specs.Headings.{value}
use Rattle.segments.specs.Free.{SegmentRecord, SegmentOpening}
use Rattle.tables.specs.declared.Record.{Record}
use Rattle.tables.specs.declared.Opening.{Opening}
use Rattle.tables.specs.Layout.{position_number, record_at, opening_at}
use Rattle.tables.specs.Fields.{is_used, is_open, value_of, held_by_record, held_by_opening}
use Rattle.tables.specs.Handles.{handle_in}
use Rattle.cells.specs.Says.{record_in, opening_in, decoded_record, decoded_opening, house_of}
use Rattle.cells.specs.Laws.Determined.{one_not_zero}
use Rattle.combine.specs.Laws.Each.{tab-each}

-- ---- a record and an opening by themselves

module _ (r : Record) where
  pub says-used : is_used r ≡ true → decoded_record r ≡ some (record_in r)
  unfolding decoded_record
  says-used u = rw u

  pub held-used : is_used r ≡ true → held_by_record r ≡ held_of r.species r.begin.0 r.end.0
  unfolding held_by_record
  held-used u = rw (one_not_zero r.used (eqb-true r.used 1 u))

  used-said : (q : SegmentRecord) → decoded_record r ≡ some q → (is_used r ≡ true) × (record_in r ≡ q)
  unfolding decoded_record
  used-said q e = go (is_used r) refl
    where
      go : (b : Bool) → is_used r ≡ b → (is_used r ≡ true) × (record_in r ≡ q)
      go true u = let z : some (record_in r) ≡ some q = sym (says-used u) ∙ e in (u, cc)
      go false u = absurd (let z : none ≡ some q = rw u at e in let w : ◌≡◌ {A = ℕ} 0 1 = cc in let y : ⊥ = omega arith in y)

module _ (o : Opening) where
  pub says-open : is_open o ≡ true → decoded_opening o ≡ some (opening_in o)
  unfolding decoded_opening
  says-open u = rw u

  pub held-open : is_open o ≡ true → held_by_opening o ≡ held_of o.species (value_of o 0) (value_of o 1)
  unfolding held_by_opening
  held-open u = rw (one_not_zero o.opened (eqb-true o.opened 1 u))

  open_said : (x : SegmentOpening) → decoded_opening o ≡ some x → (is_open o ≡ true) × (opening_in o ≡ x)
  unfolding decoded_opening
  open_said x e = go (is_open o) refl
    where
      go : (b : Bool) → is_open o ≡ b → (is_open o ≡ true) × (opening_in o ≡ x)
      go true u = let z : some (opening_in o) ≡ some x = sym (says-open u) ∙ e in (u, cc)
      go false u = absurd (let z : none ≡ some x = rw u at e in let w : ◌≡◌ {A = ℕ} 0 1 = cc in let y : ⊥ = omega arith in y)

  pub value-said : (p : ℕ) → value (handle_in o) p ≡ value_of o p
  unfolding value_of
  value-said p = get_or-map position_number o.pointers p (position 0)

-- ---- in a house

pub record RecordThere (t : List ℕ) (p : ℕ) (r : SegmentRecord) : Type 0 where
  pub below : p < places
  pub used : is_used (record_at t p) ≡ true
  pub same : record_in (record_at t p) ≡ r

pub record OpeningThere (t : List ℕ) (i : ℕ) (x : SegmentOpening) : Type 0 where
  pub below : i < entries
  pub opened : is_open (opening_at t i) ≡ true
  pub same : opening_in (opening_at t i) ≡ x

module _ (t : List ℕ) where
  pub record-at : (p : ℕ) → p < places → get_or (house_of t).records p none ≡ decoded_record (record_at t p)
  unfolding house_of
  record-at p l = tab-at places (λ q. decoded_record (record_at t q)) p none l

  pub opening-at : (i : ℕ) → i < entries → get_or (house_of t).openings i none ≡ decoded_opening (opening_at t i)
  unfolding house_of
  opening-at i l = tab-at entries (λ j. decoded_opening (opening_at t j)) i none l

  -- what holds of nothing and of what each place says, holds at every place
  pub each-record : (P : Option SegmentRecord → Type 0) (p : ℕ) → (p < places → P (decoded_record (record_at t p))) → P none → P (get_or (house_of t).records p none)
  unfolding house_of
  each-record P p h n = tab-each P places (λ q. decoded_record (record_at t q)) p none h n

  pub each-opening : (P : Option SegmentOpening → Type 0) (i : ℕ) → (i < entries → P (decoded_opening (opening_at t i))) → P none → P (get_or (house_of t).openings i none)
  unfolding house_of
  each-opening P i h n = tab-each P entries (λ j. decoded_opening (opening_at t j)) i none h n

  pub record-there : (p : ℕ) (r : SegmentRecord) → get_or (house_of t).records p none ≡ some r → RecordThere t p r
  record-there p r = each-record (λ y. y ≡ some r → RecordThere t p r) p
      (λ l e. let u = used-said (record_at t p) r e in record { below = l; used = u.0; same = u.1 })
      (λ e. absurd (let w : ◌≡◌ {A = ℕ} 0 1 = cc in let y : ⊥ = omega arith in y))

  pub opening-there : (i : ℕ) (x : SegmentOpening) → get_or (house_of t).openings i none ≡ some x → OpeningThere t i x
  opening-there i x = each-opening (λ y. y ≡ some x → OpeningThere t i x) i
      (λ l e. let u = open_said (opening_at t i) x e in record { below = l; opened = u.0; same = u.1 })
      (λ e. absurd (let w : ◌≡◌ {A = ℕ} 0 1 = cc in let y : ⊥ = omega arith in y))
