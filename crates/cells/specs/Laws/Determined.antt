-- Sound records and openings are determined by what they say: written back, it gives the same cells. Assumes nothing.
use Rattle.std.specs.Prelude.{ℕ, zero, suc, ◌+◌, ◌-◌, ◌≤◌, ◌<◌, ◌≡◌, refl, true, List, ◌++◌, map, length, get_or, take, drop, replicate}
use Rattle.std.proofs.Math.Path.{sym, ap}
use Rattle.std.proofs.Common.{◌∙◌, zero-add, arith, length-drop, take-append-drop, length-take-le, get_or-drop}
use Rattle.std.proofs.Math.Logic.{⊎_elim}
use Rattle.std.proofs.Math.Bool.{false}
use Rattle.std.proofs.Math.Option.{none, some}
use Rattle.std.proofs.Math.Dec.{eqb}
use borrow.Author.Tests.{eqb-true, leb-true, ne_eqb}
use Rattle.std.proofs.lemmas.List.{length-map, length-replicate, get_or-replicate}
use Rattle.std.proofs.Math.ListN.{get_or-map}
use Rattle.std.proofs.Math.Seq.{ext_get_or}
use Rattle.combine.specs.Below.{all_below}
use Rattle.combine.specs.Laws.Below.{all-at, all-cong, split-bool}
use Rattle.combine.specs.Laws.Rows.{each_of}
use Rattle.placing.specs.declared.Segment.{Segment}
use Rattle.placing.specs.Placing.{segment, position, held_of}
use Rattle.placing.specs.Sizes.{tables_length}
use Rattle.tables.specs.declared.Record.{Record}
use Rattle.tables.specs.declared.Opening.{Opening}
use Rattle.tables.specs.Layout.{segment_number, opening_at, unused_record, closed_opening}
use Rattle.tables.specs.Fields.{number_at, value_of, held_by_record, held_by_opening}
use Rattle.tables.specs.Records.{extentb, listb, usedb, unusedb, recordb}
use Rattle.tables.specs.Openings.{openb, closedb, openingb}
use Rattle.tables.specs.Laws.Again.{ShapedRecord, ShapedOpening, segments-again, positions-again}
use Rattle.tables.specs.Laws.Put.{opening-shaped-at}
use Rattle.rules.specs.Headings.{filing, opening}
use Rattle.tables.specs.Handles.{bit, handle_in, heading_of, place_number, place_of}
use Rattle.cells.specs.Says.{in_places, decoded_record, decoded_opening, as_record, as_opening}

bit-back : (n : ℕ) → n ≤ 1 → bit (eqb n 1) ≡ n
bit-back zero h = refl
bit-back (suc zero) h = refl
bit-back (suc (suc n)) h = absurd (let y : ⊥ = omega arith in y)

place-back : (n : ℕ) → place_number (place_of n) ≡ n
place-back zero = refl
place-back (suc n) =
    let e : eqb (suc n) 0 ≡ false = ne_eqb (suc n) 0 (λ q. omega arith) in
    let d : suc n - 1 ≡ n = omega arith in
    rw (e, d)

-- numbers that are all zero
zeros : (n : ℕ) (l : List ℕ) → length l ≡ n → ((k : ℕ) → k < n → get_or l k 0 ≡ 0) → l ≡ replicate n 0
zeros n l e h =
    ext_get_or 0 l (replicate n 0) (e ∙ sym (length-replicate n 0)) (λ k r. h k (omega (arith, r, e)) ∙ sym (get_or-replicate n k 0 0 (omega (arith, r, e))))

-- a list of 32 segments whose numbers from n on are zero
places-back : (l : List Segment) (n : ℕ) → length l ≡ 32 → n ≤ 32 → all_below (32 - n) (λ k. eqb (number_at l (n + k)) 0) ≡ true
    → in_places (take n (map segment_number l)) ≡ l
unfolding in_places
places-back l n e h z =
    let m : List ℕ = map segment_number l in
    let lm : length (map segment_number l) ≡ 32 = length-map l segment_number ∙ e in
    let lt : length (take n (map segment_number l)) ≡ n = length-take-le n (map segment_number l) (omega arith) in
    let rest : drop n (map segment_number l) ≡ replicate (32 - n) 0 =
    zeros (32 - n) (drop n (map segment_number l)) (length-drop n (map segment_number l) ∙ ap (λ (k : ℕ). k - n) lm)
    (λ k r. get_or-drop n (map segment_number l) k 0 ∙ get_or-map segment_number l (n + k) (segment 0) ∙ eqb-true (number_at l (n + k)) 0 (all-at _ (32 - n) z k r)) in
    ap (λ (k : ℕ). map segment (take n (map segment_number l) ++ replicate (32 - k) 0)) lt
    ∙ ap (λ (x : List ℕ). map segment (take n (map segment_number l) ++ x)) (sym rest)
    ∙ ap (λ (x : List ℕ). map segment x) (take-append-drop n (map segment_number l))
    ∙ segments-again l

no-segments : (l : List Segment) → length l ≡ 32 → all_below 32 (λ k. eqb (number_at l k) 0) ≡ true → replicate 32 (segment 0) ≡ l
unfolding in_places
no-segments l e z =
    places-back l 0 e (omega arith)
    (all-cong (λ k. eqb (number_at l (0 + k)) 0) (λ k. eqb (number_at l k) 0) 32 (λ k r. ap (λ (m : ℕ). eqb (number_at l m) 0) (zero-add k)) ∙ z)

pub one_not_zero : (n : ℕ) → n ≡ 1 → eqb n 0 ≡ false
one_not_zero n e = ap (λ (k : ℕ). eqb k 0) e

-- ---- a record

module _ (r : Record) (w : ShapedRecord r) where
  held : ℕ
  held = held_of r.species r.begin.0 r.end.0

  says-used : eqb r.used 1 ≡ true → decoded_record r ≡ some (filing (heading_of r) (take held (map segment_number r.segments)))
  unfolding decoded_record held_by_record held
  says-used p = let q : eqb r.used 0 ≡ false = one_not_zero r.used (eqb-true r.used 1 p) in rw (p, q)

  used-back : (n : ℕ) → usedb n r ≡ true → as_record (decoded_record r) ≡ r
  unfolding usedb as_record extentb listb held
  used-back n ok =
      let f = each_of _ ok in
      ap as_record (says-used f.0)
      ∙ (λ i. record {
        used = sym (eqb-true r.used 1 f.0) i;
        name = r.name;
        owner = r.owner;
        private = bit-back r.private (leb-true r.private 1 f.1.1.1.0) i;
        species = r.species;
        begin = r.begin;
        end = r.end;
        segments = places-back r.segments held w.segments32 (leb-true held 32 (each_of _ f.1.1.1.1.0).1.1.1.1.0) (each_of _ f.1.1.1.1.1.0).1.0 i;
      })

  says-unused : eqb r.used 0 ≡ true → decoded_record r ≡ none
  unfolding decoded_record
  says-unused p = let q : eqb r.used 1 ≡ false = ap (λ (k : ℕ). eqb k 1) (eqb-true r.used 0 p) in rw q

  unused-back : eqb r.used 0 ≡ true → unusedb r ≡ true → as_record (decoded_record r) ≡ r
  unfolding unusedb as_record unused_record
  unused-back p ok =
      let f = each_of _ ok in
      ap as_record (says-unused p)
      ∙ sym (λ i. record {
        used = eqb-true r.used 0 p i;
        name = zeros 12 r.name w.name12 (λ k l. eqb-true (get_or r.name k 0) 0 (all-at _ 12 f.0 k l)) i;
        owner = eqb-true r.owner 0 f.1.0 i;
        private = eqb-true r.private 0 f.1.1.0 i;
        species = eqb-true r.species 0 f.1.1.1.0 i;
        begin = position (eqb-true r.begin.0 0 f.1.1.1.1.0 i);
        end = position (eqb-true r.end.0 0 f.1.1.1.1.1.0 i);
        segments = sym (no-segments r.segments w.segments32 f.1.1.1.1.1.1.0) i;
      })

  pub record-back : (n : ℕ) → recordb n r ≡ true → as_record (decoded_record r) ≡ r
  unfolding recordb
  record-back n ok = ⊎_elim (λ p. unused-back p (rw p at ok)) (λ p. used-back n (rw p at ok)) (split-bool (eqb r.used 0))

-- ---- an opening

module _ (o : Opening) (w : ShapedOpening o) where
  holding : ℕ
  holding = held_of o.species (value_of o 0) (value_of o 1)

  says-open : eqb o.opened 1 ≡ true → decoded_opening o ≡ some (opening (handle_in o) (take holding (map segment_number o.segments)))
  unfolding decoded_opening held_by_opening holding
  says-open p = let q : eqb o.opened 0 ≡ false = one_not_zero o.opened (eqb-true o.opened 1 p) in rw (p, q)

  open-back : (t : List ℕ) (k : ℕ) → openb t k o ≡ true → as_opening (decoded_opening o) ≡ o
  unfolding openb as_opening extentb listb holding
  open-back t k ok =
      let f = each_of _ ok in
      let g = f.1.1.1.1.1 in
      ap as_opening (says-open f.0)
      ∙ (λ i. record {
        opened = sym (eqb-true o.opened 1 f.0) i;
        place = place-back o.place i;
        permit = bit-back o.permit (leb-true o.permit 1 f.1.0) i;
        species = o.species;
        pointers = positions-again o.pointers i;
        name = o.name;
        segments = places-back o.segments holding w.segments32 (leb-true holding 32 (each_of _ g.0).1.1.1.1.0) (each_of _ g.1.1.1.0).1.0 i;
      })

  says-closed : eqb o.opened 0 ≡ true → decoded_opening o ≡ none
  unfolding decoded_opening
  says-closed p = let q : eqb o.opened 1 ≡ false = ap (λ (k : ℕ). eqb k 1) (eqb-true o.opened 0 p) in rw q

  no-pointers : all_below 8 (λ k. eqb (value_of o k) 0) ≡ true → o.pointers ≡ replicate 8 (position 0)
  unfolding value_of
  no-pointers z =
      let e = w.pointers8 in
      ext_get_or (position 0) o.pointers (replicate 8 (position 0)) e
      (λ k r. ap position (eqb-true (get_or o.pointers k (position 0)).0 0 (all-at _ 8 z k (omega (arith, r, e)))) ∙ sym (get_or-replicate 8 k (position 0) (position 0) (omega (arith, r, e))))

  closed-back : eqb o.opened 0 ≡ true → closedb o ≡ true → as_opening (decoded_opening o) ≡ o
  unfolding closedb as_opening closed_opening
  closed-back p ok =
      let f = each_of _ ok in
      ap as_opening (says-closed p)
      ∙ sym (λ i. record {
        opened = eqb-true o.opened 0 p i;
        place = eqb-true o.place 0 f.0 i;
        permit = eqb-true o.permit 0 f.1.0 i;
        species = eqb-true o.species 0 f.1.1.0 i;
        pointers = no-pointers f.1.1.1.0 i;
        name = zeros 12 o.name w.name12 (λ k l. eqb-true (get_or o.name k 0) 0 (all-at _ 12 f.1.1.1.1.0 k l)) i;
        segments = sym (no-segments o.segments w.segments32 f.1.1.1.1.1.0) i;
      })

-- ---- in sound tables

pub opening-back : (t : List ℕ) (k : ℕ) → length t ≡ tables_length → k < 32 → openingb t k ≡ true → as_opening (decoded_opening (opening_at t k)) ≡ opening_at t k
unfolding openingb
opening-back t k long lk ok =
    let w = opening-shaped-at t long k lk in
    ⊎_elim (λ p. closed-back (opening_at t k) w p (rw p at ok)) (λ p. open-back (opening_at t k) w t k (rw p at ok)) (split-bool (eqb (opening_at t k).opened 0))
