-- A record and an opening are what their own cells say. Assumes nothing.
use Prim.Native.Nat.{ℕ, zero, suc, ◌+◌}
use Rattle.std.specs.Prelude.{◌≡◌, refl, get_or, drop, set}
use Rattle.std.proofs.Common.{sym, ◌∙◌, arith, get_or-append-add, take_all}
use Rattle.std.proofs.Math.Path.{ap}
use mathlib.Core.List.{List, [], ◌∷◌, ◌++◌, map}
use Rattle.std.proofs.Math.ListN.{length, take, length-append, length-map}
use Rattle.std.proofs.Math.Seq.{drop-append-add, take_at}
use Rattle.combine.specs.Lists.{part}
use Rattle.placing.specs.Sizes.{most_held, name_symbols, all_pointers, record_length, opening_length}
use Rattle.placing.specs.declared.Segment.{Segment}
use Rattle.placing.specs.declared.Position.{Position}
use Rattle.placing.specs.Placing.{segment, position}
use Rattle.tables.specs.declared.Record.{Record}
use Rattle.tables.specs.declared.Opening.{Opening}
use Rattle.tables.specs.Layout.{segment_number, position_number, record_of, record_cells, opening_of, opening_cells}

-- the lists have the lengths of the arrays
pub record ShapedRecord (r : Record) : Type 0 where
  pub name12 : length r.name ≡ name_symbols
  pub segments32 : length r.segments ≡ most_held

pub record ShapedOpening (o : Opening) : Type 0 where
  pub pointers8 : length o.pointers ≡ all_pointers
  pub name12 : length o.name ≡ name_symbols
  pub segments32 : length o.segments ≡ most_held

-- ---- lists

pub segments-again : (l : List Segment) → map segment (map segment_number l) ≡ l
segments-again [] = refl
segments-again (g ∷ l) = ap (λ (x : List Segment). g ∷ x) (segments-again l)

pub positions-again : (l : List Position) → map position (map position_number l) ≡ l
positions-again [] = refl
positions-again (x ∷ l) = ap (λ (y : List Position). x ∷ y) (positions-again l)

pub numbers-again : (l : List ℕ) → map segment_number (map segment l) ≡ l
numbers-again [] = refl
numbers-again (g ∷ l) = ap (λ (x : List ℕ). g ∷ x) (numbers-again l)

pub values-again : (l : List ℕ) → map position_number (map position l) ≡ l
values-again [] = refl
values-again (v ∷ l) = ap (λ (x : List ℕ). v ∷ x) (values-again l)

pub set_back : (l : List Position) (k v : ℕ) → map position (set (map position_number l) k v) ≡ set l k (position v)
set_back [] k v = refl
set_back (x ∷ l) zero v = ap (λ (y : List Position). position v ∷ y) (positions-again l)
set_back (x ∷ l) (suc k) v = ap (λ (y : List Position). x ∷ y) (set_back l k v)

-- what stands after a list of length n
at_after : (xs ys : List ℕ) (n k : ℕ) → length xs ≡ n → get_or (xs ++ ys) (n + k) 0 ≡ get_or ys k 0
at_after xs ys n k e = ap (λ (m : ℕ). get_or (xs ++ ys) (m + k) 0) (sym e) ∙ get_or-append-add xs ys k 0

from-after : (xs ys : List ℕ) (n k : ℕ) → length xs ≡ n → drop (n + k) (xs ++ ys) ≡ drop k ys
from-after xs ys n k e = ap (λ (m : ℕ). drop (m + k) (xs ++ ys)) (sym e) ∙ drop-append-add xs ys k

-- ---- a record of its own cells

module _ (r : Record) (w : ShapedRecord r) where
  rest : List ℕ
  rest = r.owner ∷ r.private ∷ r.species ∷ r.begin.0 ∷ r.end.0 ∷ map segment_number r.segments

  pub length-record : length (record_cells r) ≡ record_length
  unfolding record_cells rest
  length-record =
      let l : length (map segment_number r.segments) ≡ 32 = length-map r.segments segment_number ∙ w.segments32 in
      let e : length (r.name ++ rest) ≡ length r.name + suc (suc (suc (suc (suc (length (map segment_number r.segments)))))) = length-append r.name rest in
      let m : suc (length (r.name ++ rest)) ≡ record_length = omega (arith, e, l, w.name12) in
      m

  pub record-again : record_of (record_cells r) ≡ r
  unfolding record_of record_cells part rest
  record-again =
      let n = w.name12 in
      let name : take 12 (r.name ++ rest) ≡ r.name = take_at r.name rest 12 n in
      let segs : map segment (take 32 (drop 17 (r.name ++ rest))) ≡ r.segments =
      ap (λ (x : List ℕ). map segment (take 32 x)) (from-after r.name rest 12 5 n)
      ∙ ap (λ (x : List ℕ). map segment x) (take_all 32 (map segment_number r.segments) (let l = length-map r.segments segment_number ∙ w.segments32 in omega arith))
      ∙ segments-again r.segments in
      λ i. record {
        used = r.used;
        name = name i;
        owner = at_after r.name rest 12 0 n i;
        private = at_after r.name rest 12 1 n i;
        species = at_after r.name rest 12 2 n i;
        begin = position (at_after r.name rest 12 3 n i);
        end = position (at_after r.name rest 12 4 n i);
        segments = segs i;
      }

-- ---- an opening of its own cells

module _ (o : Opening) (w : ShapedOpening o) where
  after-pointers : List ℕ
  after-pointers = o.name ++ map segment_number o.segments

  points : List ℕ
  points = map position_number o.pointers

  pub length-opening : length (opening_cells o) ≡ opening_length
  unfolding opening_cells after-pointers points
  length-opening =
      let l : length (map segment_number o.segments) ≡ 32 = length-map o.segments segment_number ∙ w.segments32 in
      let k : length points ≡ 8 = length-map o.pointers position_number ∙ w.pointers8 in
      let e : length (points ++ after-pointers) ≡ length points + length after-pointers = length-append points after-pointers in
      let f : length after-pointers ≡ length o.name + length (map segment_number o.segments) = length-append o.name (map segment_number o.segments) in
      let m : suc (suc (suc (suc (length (points ++ after-pointers))))) ≡ opening_length = omega (arith, e, f, k, l, w.name12) in
      m

  pub opening-again : opening_of (opening_cells o) ≡ o
  unfolding opening_of opening_cells part after-pointers points
  opening-again =
      let k : length points ≡ 8 = length-map o.pointers position_number ∙ w.pointers8 in
      let pointers : map position (take 8 (points ++ after-pointers)) ≡ o.pointers =
      ap (λ (x : List ℕ). map position x) (take_at points after-pointers 8 k) ∙ positions-again o.pointers in
      let name : take 12 (drop 8 (points ++ after-pointers)) ≡ o.name =
      ap (take 12) (from-after points after-pointers 8 0 k) ∙ take_at o.name (map segment_number o.segments) 12 w.name12 in
      let segs : map segment (take 32 (drop 20 (points ++ after-pointers))) ≡ o.segments =
      ap (λ (x : List ℕ). map segment (take 32 x)) (from-after points after-pointers 8 12 k ∙ from-after o.name (map segment_number o.segments) 12 0 w.name12)
      ∙ ap (λ (x : List ℕ). map segment x) (take_all 32 (map segment_number o.segments) (let l = length-map o.segments segment_number ∙ w.segments32 in omega arith))
      ∙ segments-again o.segments in
      λ i. record { opened = o.opened; place = o.place; permit = o.permit; species = o.species; pointers = pointers i; name = name i; segments = segs i }
