-- What sound tables say has the lengths of files. Assumes nothing.
use Rattle.std.specs.Prelude.{ℕ, ◌≤◌, ◌<◌, ◌≡◌, List, map, get_or, take}
use Rattle.std.proofs.Math.Path.{sym, ap}
use Rattle.std.proofs.Common.{◌∙◌, eqb-true, leb-true}
use Rattle.std.proofs.Math.Logic.{⊎_elim}
use Rattle.std.proofs.Math.Bool.{true, false}
use native.Mathlib.Omega.{arith}
use Rattle.std.proofs.Math.Dec.{eqb}
use Rattle.std.proofs.Math.ListN.{length, length-map, get_or-map}
use Rattle.std.proofs.Math.Seq.{length-take-le}
use Rattle.combine.specs.Laws.Below.{split-bool}
use Rattle.combine.specs.Laws.Rows.{each_of}
use Rattle.placing.specs.Placing.{position, held_of}
use Rattle.placing.specs.Sizes.{tables_length}
use Rattle.rules.specs.Headings.{holds}
use Rattle.tables.specs.declared.Record.{Record}
use Rattle.tables.specs.declared.Opening.{Opening}
use Rattle.tables.specs.Layout.{segment_number, position_number, record_at, opening_at}
use Rattle.tables.specs.Fields.{value_of, held_by_record, held_by_opening}
use Rattle.tables.specs.Records.{extentb, usedb, recordb}
use Rattle.tables.specs.Openings.{openb, openingb}
use Rattle.tables.specs.Laws.Again.{ShapedRecord, ShapedOpening}
use Rattle.tables.specs.Laws.Put.{record-shaped-at, opening-shaped-at}
use Rattle.tables.specs.Handles.{handle_in}
use Rattle.cells.specs.Says.{record_in, opening_in, decoded_record, decoded_opening}
use Rattle.cells.specs.Laws.Determined.{one_not_zero}
use Rattle.cells.specs.Laws.Written.{FitsRecord, FitsOpening, FitsPlace, FitsEntry}

few-held : (s b e : ℕ) → extentb s b e ≡ true → held_of s b e ≤ 32
unfolding extentb
few-held s b e ok = leb-true (held_of s b e) 32 (each_of _ ok).1.1.1.1.0

module _ (r : Record) (w : ShapedRecord r) where
  used-fits : (n : ℕ) → usedb n r ≡ true → FitsRecord (record_in r)
  unfolding usedb held_by_record
  used-fits n ok =
      let f = each_of _ ok in
      let held = held_of r.species r.begin.0 r.end.0 in
      let few : held ≤ 32 = few-held r.species r.begin.0 r.end.0 f.1.1.1.1.0 in
      let long : length (map segment_number r.segments) ≡ 32 = length-map r.segments segment_number ∙ w.segments32 in
      let e : length (take held (map segment_number r.segments)) ≡ held = length-take-le held (map segment_number r.segments) (omega arith) in
      rw (one_not_zero r.used (eqb-true r.used 1 f.0)) (record { name12 = w.name12; each = e; few = omega arith })

  is-used : (n : ℕ) → usedb n r ≡ true → eqb r.used 1 ≡ true
  unfolding usedb
  is-used n ok = (each_of _ ok).0

  record-fits : (n : ℕ) → recordb n r ≡ true → FitsPlace (decoded_record r)
  unfolding recordb decoded_record
  record-fits n ok =
      ⊎_elim (λ p. let q : eqb r.used 1 ≡ false = ap (λ (k : ℕ). eqb k 1) (eqb-true r.used 0 p) in rw q tt)
      (λ p. let u : usedb n r ≡ true = rw p at ok in rw (is-used n u) (used-fits n u)) (split-bool (eqb r.used 0))

module _ (o : Opening) (w : ShapedOpening o) (t : List ℕ) (k : ℕ) where
  value-seen : (p : ℕ) → value_of o p ≡ get_or (map position_number o.pointers) p 0
  unfolding value_of
  value-seen p = sym (get_or-map position_number o.pointers p (position 0))

  open-fits : openb t k o ≡ true → FitsOpening (opening_in o)
  unfolding openb held_by_opening
  open-fits ok =
      let f = each_of _ ok in
      let held = held_of o.species (value_of o 0) (value_of o 1) in
      let few : held ≤ 32 = few-held o.species (value_of o 0) (value_of o 1) f.1.1.1.1.1.0 in
      let long : length (map segment_number o.segments) ≡ 32 = length-map o.segments segment_number ∙ w.segments32 in
      let e : length (take held (map segment_number o.segments)) ≡ held = length-take-le held (map segment_number o.segments) (omega arith) in
      let same : held ≡ holds (handle_in o) = λ i. held_of o.species (value-seen 0 i) (value-seen 1 i) in
      rw (one_not_zero o.opened (eqb-true o.opened 1 f.0))
      (record { pointers8 = length-map o.pointers position_number ∙ w.pointers8; name12 = w.name12; each = e ∙ same; few = omega arith })

  is-opened : openb t k o ≡ true → eqb o.opened 1 ≡ true
  unfolding openb
  is-opened ok = (each_of _ ok).0

pub fits-record : (t : List ℕ) (n p : ℕ) → length t ≡ tables_length → p < 64 → recordb n (record_at t p) ≡ true → FitsPlace (decoded_record (record_at t p))
fits-record t n p long lp ok = record-fits (record_at t p) (record-shaped-at t long p lp) n ok

pub fits-opening : (t : List ℕ) (k : ℕ) → length t ≡ tables_length → k < 32 → openingb t k ≡ true → FitsEntry (decoded_opening (opening_at t k))
unfolding openingb decoded_opening
fits-opening t k long lk ok =
    let o = opening_at t k in
    ⊎_elim (λ p. let q : eqb o.opened 1 ≡ false = ap (λ (n : ℕ). eqb n 1) (eqb-true o.opened 0 p) in rw q tt)
    (λ p. let u : openb t k o ≡ true = rw p at ok in rw (is-opened o (opening-shaped-at t long k lk) t k u) (open-fits o (opening-shaped-at t long k lk) t k u)) (split-bool (eqb o.opened 0))
