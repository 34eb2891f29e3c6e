-- "A segment is free if no catalogue record and no opening lists it": in `Ranged` tables, exactly if no held place of the 96 lists
-- has its number. Assumes nothing.
use Rattle.std.specs.Prelude.{ℕ, ◌+◌, ◌-◌, ◌≤◌, ◌<◌, ◌≡◌, refl, ◌≢◌, Bool, true, false, ◌&&◌, cond, eqb, length, get_or, take}
use Rattle.std.proofs.Math.Path.{sym, ap}
use Rattle.std.proofs.Common.{◌∙◌, eq-eqb, ne_eqb}
use Rattle.std.proofs.Math.Bool.{not}
use Rattle.std.proofs.Math.Option.{none, some}
use mathlib.Core.List.{List, [], map}
use native.Mathlib.Omega.{arith}
use Rattle.std.proofs.Math.Decide.{ℕ_discrete}
use Rattle.std.proofs.lemmas.Bool.{eqb-false, not-true}
use Rattle.combine.specs.Below.{all_below}
use Rattle.combine.specs.Laws.Below.{all-at, all-make, all-bad, all-cong}
use Rattle.combine.specs.Lists.{is_in, tab, part, any}
use Rattle.combine.specs.Laws.Any.{not-or, not-in}
use Rattle.placing.specs.Sizes.{lists}
use Rattle.placing.specs.Placing.{segment}
use Rattle.segments.specs.Free.{SegmentRecord, SegmentOpening, record_segments, opening_segments, is_free}
use Rattle.tables.specs.Layout.{segment_number, segments_in, record_base, opening_base, record_at, record_of, opening_at, opening_of}
use Rattle.tables.specs.Fields.{held_by_record, held_by_opening, is_used, is_open}
use Rattle.tables.specs.Lists.{held_in, listed}
use Rattle.tables.specs.Laws.Sound.{Ranged}
use Rattle.tables.specs.Laws.RecordFacts.{record-not-unused}
use Rattle.tables.specs.Laws.OpeningFacts.{opening-not-closed}
use Rattle.sound_lists.specs.ListCells.{record-held, opening-held}
use Rattle.sound_lists.specs.ListFacts.{list-facts}
use Rattle.cells.specs.Says.{record_in, opening_in, decoded_record, decoded_opening, house_of}
use Rattle.free_count.specs.Any.{all_join, none-tab}
use Rattle.tables.specs.Laws.Again.{numbers-again}
use Rattle.free_count.specs.Rows.{start_of, row_of, part-part, take_part, start-record, start-opening, length-row, row_at}

-- ---- what a record and an opening say of their segments is the row of their list

-- the first cell is 1 where it is not 0, and the list is empty where it is 0
said : (u h a : ℕ) (t l : List ℕ) → (u ≡ 0 → h ≡ 0) → ((u ≡ 0 → ⊥) → u ≡ 1) → l ≡ part t a h → cond (eqb u 1) l [] ≡ part t a h
unfolding part
said u h a t l empty one e = go (ℕ_discrete u 0)
  where
    go : Dec (u ≡ 0) → cond (eqb u 1) l [] ≡ part t a h
    go (yes z) = rw (ne_eqb u 1 (λ o. omega arith), empty z)
    go (no d) = rw (eq-eqb u 1 (one d)) e

record-content : (b : Bool) (r : SegmentRecord) → record_segments (cond b (some r) none) ≡ cond b r.content []
record-content true r = refl
record-content false r = refl

opening-content : (b : Bool) (x : SegmentOpening) → opening_segments (cond b (some x) none) ≡ cond b x.content []
opening-content true x = refl
opening-content false x = refl

-- h numbers of the list that starts b cells behind a
held-part : (t : List ℕ) (a n b h : ℕ) → h ≤ 32 → b + 32 ≤ n → a + n ≤ length t → take h (map segment_number (map segment (part (part t a n) b 32))) ≡ part t (a + b) h
held-part t a n b h s l m =
    ap (take h) (numbers-again (part (part t a n) b 32)) ∙ take_part (part t a n) b h 32 s ∙ part-part t a n b h (omega arith) m

held-zero : (u n : ℕ) → u ≡ 0 → cond (eqb u 0) 0 n ≡ 0
held-zero u n z = simp (eq-eqb u 0 z)

module _ (t : List ℕ) (w : Ranged t) where
  record-part : (p : ℕ) → p < 64 → take (held_by_record (record_at t p)) (map segment_number (record_at t p).segments) ≡ part t (record_base p + 18) (held_by_record (record_at t p))
  unfolding record_at record_of
  record-part p l =
      let e = w.0 in
      held-part t (record_base p) 50 18 (held_by_record (record_at t p)) (let f = (list-facts t w p (omega arith)).held in let h = record-held t p l in omega arith) (omega arith) (omega arith)

  opening-part : (i : ℕ) → i < 32 → take (held_by_opening (opening_at t i)) (map segment_number (opening_at t i).segments) ≡ part t (opening_base i + 24) (held_by_opening (opening_at t i))
  unfolding opening_at opening_of
  opening-part i l =
      let e = w.0 in
      held-part t (opening_base i) 56 24 (held_by_opening (opening_at t i)) (let f = (list-facts t w (64 + i) (omega arith)).held in let h = opening-held t i in omega arith) (omega arith) (omega arith)

  pub record-row : (p : ℕ) → p < 64 → record_segments (decoded_record (record_at t p)) ≡ row_of t p
  unfolding decoded_record row_of held_by_record
  record-row p l =
      let r = record_at t p in
      record-content (is_used r) (record_in r)
      ∙ said r.used (held_by_record r) (record_base p + 18) t _ (held-zero r.used _) (λ d. (record-not-unused t (segments_in t) w.1 p l d).used) (record-part p l)
      ∙ sym (λ j. part t (start-record p l j) (record-held t p l j))

  pub opening-row : (i : ℕ) → i < 32 → opening_segments (decoded_opening (opening_at t i)) ≡ row_of t (64 + i)
  unfolding decoded_opening row_of held_by_opening
  opening-row i l =
      let o = opening_at t i in
      let e : 64 + i - 64 ≡ i = omega arith in
      let s : start_of (64 + i) ≡ opening_base i + 24 = start-opening (64 + i) (omega arith) ∙ ap (λ (j : ℕ). opening_base j + 24) e in
      opening-content (is_open o) (opening_in o)
      ∙ said o.opened (held_by_opening o) (opening_base i + 24) t _ (held-zero o.opened _) (λ d. (opening-not-closed t w.2 i l d).opened) (opening-part i l)
      ∙ sym (λ j. part t (s j) (opening-held t i j))

  -- ---- the bridge

  module _ (g : ℕ) where
    pub free-rows : is_free (house_of t) g ≡ all_below lists (λ i. not (is_in g (row_of t i)))
    unfolding is_free house_of
    free-rows =
        not-or (any (λ r. is_in g (record_segments r)) (tab 64 (λ p. decoded_record (record_at t p)))) (any (λ x. is_in g (opening_segments x)) (tab 32 (λ i. decoded_opening (opening_at t i))))
        ∙ (λ j. filed j && entered j)
        ∙ sym (all_join 64 32 (λ i. not (is_in g (row_of t i))))
      where
        filed : not (any (λ r. is_in g (record_segments r)) (tab 64 (λ p. decoded_record (record_at t p)))) ≡ all_below 64 (λ i. not (is_in g (row_of t i)))
        filed = none-tab (λ r. is_in g (record_segments r)) 64 _ none ∙ all-cong _ _ 64 (λ p l. ap (λ (x : List ℕ). not (is_in g x)) (record-row p l))

        entered : not (any (λ x. is_in g (opening_segments x)) (tab 32 (λ i. decoded_opening (opening_at t i)))) ≡ all_below 32 (λ i. not (is_in g (row_of t (64 + i))))
        entered = none-tab (λ x. is_in g (opening_segments x)) 32 _ none ∙ all-cong _ _ 32 (λ i l. ap (λ (x : List ℕ). not (is_in g x)) (opening-row i l))

    row_below : (i : ℕ) → i < lists → not (is_in g (row_of t i)) ≡ all_below (held_in t i) (λ k. not (eqb g (listed t i k)))
    row_below i l =
        not-in g (row_of t i) ∙ ap (λ (n : ℕ). all_below n (λ k. not (eqb g (get_or (row_of t i) k 0)))) (length-row t w i l)
        ∙ all-cong _ _ (held_in t i) (λ k h. ap (λ (x : ℕ). not (eqb g x)) (row_at t w i l k h))

    pub free-below : is_free (house_of t) g ≡ all_below lists (λ i. all_below (held_in t i) (λ k. not (eqb g (listed t i k))))
    free-below = free-rows ∙ all-cong _ _ lists row_below

    pub free-unlisted : is_free (house_of t) g ≡ true → (i k : ℕ) → i < lists → k < held_in t i → listed t i k ≢ g
    free-unlisted f i k li lk e =
        eqb-false g (listed t i k) (not-true (eqb g (listed t i k)) (all-at _ (held_in t i) (all-at _ lists (sym free-below ∙ f) i li) k lk)) (sym e)

    pub unlisted-free : ((i k : ℕ) → i < lists → k < held_in t i → listed t i k ≢ g) → is_free (house_of t) g ≡ true
    unlisted-free d =
        free-below ∙ all-make _ lists (λ i li. all-make _ (held_in t i) (λ k lk. ap not (ne_eqb g (listed t i k) (λ e. d i k li lk (sym e)))))

    pub listed-taken : (i k : ℕ) → i < lists → k < held_in t i → listed t i k ≡ g → is_free (house_of t) g ≡ false
    listed-taken i k li lk e =
        free-below ∙ all-bad _ lists i li (all-bad _ (held_in t i) k lk (ap not (eq-eqb g (listed t i k) (sym e))))
