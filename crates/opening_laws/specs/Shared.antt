-- "A work opening of an old file shares the record's segments until it changes one": what is asked of an opening's position, in terms of the
-- cells of the opening and of its record. Assumes nothing.
use Prim.Native.Nat.{ℕ, zero, suc, ◌+◌, ◌-◌, ◌≤◌, ◌<◌}
use Rattle.std.specs.Prelude.{◌≡◌, ◌≢◌, Bool, true, ◌||◌, leb, take}
use Rattle.std.proofs.Math.Path.{refl, ap}
use Rattle.std.proofs.Common.{sym, ◌∙◌, le_of_suc-le-suc, not-suc-le-zero, add-one, arith, take-suc, get_or-take}
use Rattle.std.proofs.Math.Bool.{false, or_assoc}
use Rattle.std.proofs.Math.Option.{none, some}
use mathlib.Core.List.{List, [], ◌∷◌, ◌++◌, map}
use Rattle.std.proofs.Math.Dec.{eqb}
use Rattle.std.proofs.Math.ListN.{length, get_or, length-map, get_or-map}
use Rattle.std.proofs.Math.Seq.{length-take-le}
use borrow.Author.Tests.{eq-eqb, ne_eqb, eqb-true}
use Rattle.combine.specs.Laws.Below.{or_left, or_right}
use Rattle.combine.specs.Lists.{any, is_in}
use Rattle.combine.specs.Laws.Lists.{tab-at}
use Rattle.placing.specs.declared.Segment.{Segment}
use Rattle.placing.specs.Sizes.{places}
use Rattle.placing.specs.Placing.{segment, held_of, slot_of}
use Rattle.store.specs.Store.{segment_of}
use Rattle.segments.specs.Free.{record_segments, place_segments}
use Rattle.segments.specs.Deeds.{lacks, segment_at, shares_at}
use Rattle.tables.specs.declared.Record.{Record}
use Rattle.tables.specs.declared.Opening.{Opening}
use Rattle.tables.specs.Layout.{segment_number, record_at}
use Rattle.tables.specs.Fields.{is_used, value_of, number_at, held_by_record, record_for}
use Rattle.tables.specs.Handles.{handle_in, place_of}
use Rattle.tables.specs.Laws.Pointers.{value_in}
use Rattle.cells.specs.Says.{decoded_record, opening_in, house_of}
use Rattle.opening_laws.specs.Back.{OpenFile, length-in, segment-listed}

-- ---- the number is among the first so many of a list of segments

unfoldable pub lists_number : List Segment → ℕ → ℕ → Bool
lists_number l n g = is_in g (take n (map segment_number l))

any_append : {A : Type 0} (f : A → Bool) (xs ys : List A) → any f (xs ++ ys) ≡ (any f xs || any f ys)
any_append f [] ys = refl
any_append f (x ∷ xs) ys = ap (λ (b : Bool). f x || b) (any_append f xs ys) ∙ sym (or_assoc (f x) (any f xs) (any f ys))

in-at : (l : List ℕ) (k g : ℕ) → k < length l → get_or l k 0 ≡ g → is_in g l ≡ true
in-at [] k g h e = absurd (not-suc-le-zero h)
in-at (x ∷ l) zero g h e = or_left (eqb g x) (is_in g l) (eq-eqb g x (sym e))
in-at (x ∷ l) (suc k) g h e = or_right (eqb g x) (is_in g l) (in-at l k g (le_of_suc-le-suc h) e)

module _ (l : List Segment) (g : ℕ) where
  pub lists-none : lists_number l 0 g ≡ false
  unfolding lists_number
  lists-none = refl

  pub lists-more : (k : ℕ) → k < length l → lists_number l k g ≡ false → (number_at l k ≡ g → ⊥) → lists_number l (k + 1) g ≡ false
  unfolding lists_number
  lists-more k h e d =
      let m : List ℕ = map segment_number l in
      let lm : length (map segment_number l) ≡ length l = length-map l segment_number in
      let q : eqb g (get_or m k 0) ≡ false = ne_eqb g (get_or m k 0) (λ z. d (sym (z ∙ get_or-map segment_number l k (segment 0)))) in
      ap (λ (n : ℕ). is_in g (take n m)) (add-one k) ∙ ap (is_in g) (take-suc m k 0 (omega arith))
      ∙ any_append (eqb g) (take k m) (get_or m k 0 ∷ []) ∙ rw (e, q) refl

  pub lists-hit : (n k : ℕ) → k < n → n ≤ length l → number_at l k ≡ g → lists_number l n g ≡ true
  unfolding lists_number
  lists-hit n k h f e =
      let m : List ℕ = map segment_number l in
      let lm : length (map segment_number l) ≡ length l = length-map l segment_number in
      let lt : length (take n m) ≡ n = length-take-le n m (omega arith) in
      in-at (take n m) k g (omega arith) (get_or-take n m k 0 h ∙ get_or-map segment_number l k (segment 0) ∙ e)

-- ---- the number is one of the record's segments

unfoldable pub shares_number : List ℕ → Opening → ℕ → Bool
shares_number t o g = is_in g (place_segments (house_of t).records (handle_in o).place)

-- the list of a record in use
record-lists : (r : Record) → is_used r ≡ true → record_segments (decoded_record r) ≡ take (held_of r.species r.begin.0 r.end.0) (map segment_number r.segments)
unfolding decoded_record held_by_record
record-lists r u =
    let z : eqb r.used 0 ≡ false = ap (λ (k : ℕ). eqb k 0) (eqb-true r.used 1 u) in
    rw (u, z) refl

module _ (t : List ℕ) (o : Opening) (g : ℕ) where
  -- an opening of no record, and one of a record: its held list is asked
  pub shares-none : o.place ≡ 0 → shares_number t o g ≡ false
  unfolding shares_number
  shares-none e = ap (λ p. is_in g (place_segments (house_of t).records p)) (ap place_of e)

  pub shares-listed : o.place ≢ 0 → o.place ≤ places → is_used (record_for t o) ≡ true
      → let r = record_for t o in
      shares_number t o g ≡ lists_number r.segments (held_of r.species r.begin.0 r.end.0) g
  unfolding shares_number lists_number house_of
  shares-listed d l u =
      let p : place_of o.place ≡ some (o.place - 1) = rw (ne_eqb o.place 0 d) refl in
      let q : get_or (house_of t).records (o.place - 1) none ≡ decoded_record (record_for t o) = tab-at 64 (λ k. decoded_record (record_at t k)) (o.place - 1) none (omega arith) in
      ap (λ x. is_in g (place_segments (house_of t).records x)) p ∙ ap (λ x. is_in g (record_segments x)) q ∙ ap (is_in g) (record-lists (record_for t o) u)

-- ---- a position of the opening

module _ (o : Opening) (w : OpenFile o) (v : ℕ) where
  -- its stretch has no segment
  pub lacks-in : lacks (opening_in o) v ≡ leb (held_of o.species (value_of o 0) (value_of o 1)) (slot_of o.species (value_of o 0) v)
  lacks-in = λ i. leb (length-in o w i) (slot_of o.species (value_in o 0 i) v)

  -- its segment
  pub segment-in : segment (segment_at (opening_in o) v) ≡ get_or o.segments (slot_of o.species (value_of o 0) v) (segment 0)
  unfolding segment_of
  segment-in =
      ap (λ (b : ℕ). segment (get_or (opening_in o).content (slot_of o.species b v) 0)) (value_in o 0)
      ∙ segment-listed o w (slot_of o.species (value_of o 0) v)

  -- that is the record's too
  pub shares-in : (t : List ℕ) → shares_at (house_of t).records (opening_in o) v ≡ shares_number t o (number_at o.segments (slot_of o.species (value_of o 0) v))
  unfolding shares_number
  shares-in t = λ i. is_in (segment_number (segment-in i)) (place_segments (house_of t).records (handle_in o).place)
