-- What the cells of tables say after a change was written there is what they said before, changed. Assumes nothing.
use Prim.Native.Nat.{ℕ, suc, ◌+◌, ◌-◌, ◌≤◌, ◌<◌}
use Rattle.std.specs.Prelude.{◌≡◌, refl, Bool, true, false, List, ◌++◌, map, eqb, length, take, set, replicate}
use Rattle.std.proofs.Math.Path.{sym, ap}
use Rattle.std.proofs.Common.{◌∙◌, arith, ne_eqb, length-append, take_at}
use Rattle.std.proofs.Math.Option.{Option, none, some}
use Rattle.std.proofs.Math.ListN.{length-map, get_or, get_or-map}
use Rattle.std.proofs.lemmas.List.{length-replicate}
use Rattle.combine.specs.Laws.Lists.{tab-cong, tab-set}
use Rattle.placing.specs.Placing.{segment, position, held_of}
use Rattle.placing.specs.Sizes.{tables_length}
use Rattle.rules.specs.Headings.{filing, opening, holds}
use Rattle.rules.specs.House.{house, Filing, kept, becomes, refiled, Change, changed}
use Rattle.segments.specs.Free.{SegmentRecord, SegmentOpening}
use Rattle.tables.specs.Layout.{segment_number, position_number, segments_in, record_at, opening_at, put_opening, unused_record, closed_opening}
use Rattle.tables.specs.Fields.{value_of, held_by_record, held_by_opening}
use Rattle.tables.specs.Laws.Again.{ShapedRecord, ShapedOpening, numbers-again, values-again}
use Rattle.tables.specs.Laws.Put.{length-put-record, record-put, record-other, opening-kept, segments-kept, opening-put, opening-other, record-kept, segments-stay}
use Rattle.tables.specs.Handles.{bit, place_number, place_of}
use Rattle.cells.specs.Says.{in_places, decoded_record, decoded_opening, house_of, as_record, as_opening, filed_in, written}

-- ---- what has the lengths of a file: a name of 12 symbols, a segment for each held stretch, 32 at most; eight pointers

pub record FitsRecord (r : SegmentRecord) : Type 0 where
  pub name12 : length r.head.name ≡ 12
  pub each : length r.content ≡ held_of r.head.species r.head.begin r.head.end
  pub few : length r.content ≤ 32

pub record FitsOpening (x : SegmentOpening) : Type 0 where
  pub pointers8 : length x.handle.pointers ≡ 8
  pub name12 : length x.handle.name ≡ 12
  pub each : length x.content ≡ holds x.handle
  pub few : length x.content ≤ 32

-- ---- there and back

bit-again : (b : Bool) → eqb (bit b) 1 ≡ b
bit-again true = refl
bit-again false = refl

place-again : (p : Option ℕ) → place_of (place_number p) ≡ p
place-again none = refl
place-again (some p) =
    let e : eqb (suc p) 0 ≡ false = ne_eqb (suc p) 0 (λ q. omega arith) in
    let d : suc p - 1 ≡ p = omega arith in
    rw (e, d)

length-places : (l : List ℕ) → length l ≤ 32 → length (in_places l) ≡ 32
unfolding in_places
length-places l h =
    length-map (l ++ replicate (32 - length l) 0) segment ∙ length-append l (replicate (32 - length l) 0)
    ∙ ap (λ (n : ℕ). length l + n) (length-replicate (32 - length l) 0) ∙ fill (length l) h
  where
    fill : (n : ℕ) → n ≤ 32 → n + (32 - n) ≡ 32
    fill n k = omega arith

list-again : (l : List ℕ) (n : ℕ) → length l ≡ n → take n (map segment_number (in_places l)) ≡ l
unfolding in_places
list-again l n e = ap (take n) (numbers-again (l ++ replicate (32 - length l) 0)) ∙ take_at l (replicate (32 - length l) 0) n e

module _ (r : SegmentRecord) (w : FitsRecord r) where
  pub record-shaped : ShapedRecord (as_record (some r))
  unfolding as_record
  record-shaped = record { name12 = w.name12; segments32 = length-places r.content w.few }

  pub record-said : decoded_record (as_record (some r)) ≡ some r
  unfolding as_record decoded_record held_by_record
  record-said =
      let h = r.head in
      λ i. some (filing
      (record { owner = h.owner; name = h.name; private = bit-again h.private i; species = h.species; begin = h.begin; end = h.end })
      (list-again r.content (held_of h.species h.begin h.end) w.each i))

module _ (x : SegmentOpening) (w : FitsOpening x) where
  pub opening-shaped : ShapedOpening (as_opening (some x))
  unfolding as_opening
  opening-shaped =
      record { pointers8 = length-map x.handle.pointers position ∙ w.pointers8; name12 = w.name12; segments32 = length-places x.content w.few }

  pub opening-said : decoded_opening (as_opening (some x)) ≡ some x
  unfolding as_opening decoded_opening held_by_opening value_of
  opening-said =
      let h = x.handle in
      let at : ℕ → ℕ = λ p. (get_or (map position h.pointers) p (position 0)).0 in
      let b : at 0 ≡ get_or h.pointers 0 0 = ap position_number (get_or-map position h.pointers 0 0) in
      let e : at 1 ≡ get_or h.pointers 1 0 = ap position_number (get_or-map position h.pointers 1 0) in
      let n : holds h ≡ held_of h.species (at 0) (at 1) = sym (λ i. held_of h.species (b i) (e i)) in
      λ i. some (opening
      (record { place = place-again h.place i; permit = bit-again h.permit i; name = h.name; species = h.species; pointers = values-again h.pointers i })
      (list-again x.content (held_of h.species (at 0) (at 1)) (w.each ∙ n) i))

-- ---- a change

abbrev pub FitsPlace : Option SegmentRecord → Type 0
FitsPlace none = Unit {0}
FitsPlace (some r) = FitsRecord r

abbrev pub FitsEntry : Option SegmentOpening → Type 0
FitsEntry none = Unit {0}
FitsEntry (some x) = FitsOpening x

abbrev pub FitsFiling : Filing (List ℕ) → Type 0
FitsFiling kept = Unit {0}
FitsFiling (becomes p r) = (p < 64) × FitsPlace r

pub shaped-place : (r : Option SegmentRecord) → FitsPlace r → ShapedRecord (as_record r)
unfolding as_record unused_record
shaped-place none w = record { name12 = refl; segments32 = refl }
shaped-place (some r) w = record-shaped r w

pub said-place : (r : Option SegmentRecord) → FitsPlace r → decoded_record (as_record r) ≡ r
unfolding as_record decoded_record unused_record
said-place none w = refl
said-place (some r) w = record-said r w

pub shaped-entry : (x : Option SegmentOpening) → FitsEntry x → ShapedOpening (as_opening x)
unfolding as_opening closed_opening
shaped-entry none w = record { pointers8 = refl; name12 = refl; segments32 = refl }
shaped-entry (some x) w = opening-shaped x w

pub said-entry : (x : Option SegmentOpening) → FitsEntry x → decoded_opening (as_opening x) ≡ x
unfolding as_opening decoded_opening closed_opening
said-entry none w = refl
said-entry (some x) w = opening-said x w

record-in : (t : List ℕ) → length t ≡ tables_length → (f : Filing (List ℕ)) → FitsFiling f
    → (length (filed_in t f) ≡ tables_length) × (house_of (filed_in t f) ≡ house (segments_in t) (refiled (house_of t).records f) (house_of t).openings)
unfolding house_of
record-in t long kept w = (long, refl)
record-in t long (becomes p r) w =
    let s = shaped-place r w.1 in
    let lp = w.0 in (
      length-put-record t long p (as_record r) lp s ∙ long,
      λ i. house (segments-kept t long p (as_record r) lp s i)
          (tab-set 64 (λ q. decoded_record (record_at t q)) (λ q. decoded_record (record_at (filed_in t (becomes p r)) q)) p r lp
          (ap decoded_record (record-put t long p (as_record r) lp s) ∙ said-place r w.1)
          (λ q lq d. ap decoded_record (record-other t long p (as_record r) lp s q lq d)) i)
          (tab-cong 32 (λ j. decoded_opening (opening_at t j)) (λ j. decoded_opening (opening_at (filed_in t (becomes p r)) j))
          (λ j lj. ap decoded_opening (opening-kept t long p (as_record r) lp s j lj)) i),
    )

opening-in : (t : List ℕ) → length t ≡ tables_length → (k : ℕ) (x : Option SegmentOpening) → k < 32 → FitsEntry x
    → house_of (put_opening t k (as_opening x)) ≡ house (segments_in t) (house_of t).records (set (house_of t).openings k x)
unfolding house_of
opening-in t long k x lk w =
    let o = as_opening x in
    let s = shaped-entry x w in
    λ i. house (segments-stay t long k o lk s i)
    (tab-cong 64 (λ q. decoded_record (record_at t q)) (λ q. decoded_record (record_at (put_opening t k o) q))
    (λ q lq. ap decoded_record (record-kept t long k o lk s q lq)) i)
    (tab-set 32 (λ j. decoded_opening (opening_at t j)) (λ j. decoded_opening (opening_at (put_opening t k o) j)) k x lk
    (ap decoded_opening (opening-put t long k o lk s) ∙ said-entry x w)
    (λ j lj d. ap decoded_opening (opening-other t long k o lk s j lj d)) i)

pub says-written : (t : List ℕ) → length t ≡ tables_length → (k : ℕ) (c : Change (List ℕ) (List ℕ)) → k < 32 → FitsFiling c.filing → FitsEntry c.entry
    → house_of (written t k c) ≡ changed (house_of t) k c
unfolding written house_of
says-written t long k c lk wf we =
    let a = record-in t long c.filing wf in
    opening-in (filed_in t c.filing) a.0 k c.entry lk we
    ∙ ap (λ h. house h.segments h.records (set h.openings k c.entry)) a.1
