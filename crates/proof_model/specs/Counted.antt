-- The number of free segments is the number of segments less those held by records and owned by openings. Assumes nothing.
use Rattle.std.specs.Prelude.{ℕ, zero, suc, ◌+◌, ◌≤◌, ◌<◌, ◌≡◌, refl, Bool, true, false, not, cond, List, [], ◌∷◌, map, T, eqb, ltb, length, get_or}
use native.Mathlib.Omega.{arith}
use Rattle.std.proofs.Common.{zero-lt-suc, sym, ◌∙◌}
use Rattle.std.proofs.Math.Path.{ap, ap₂}
use Rattle.std.proofs.Math.Option.{Option, none, some}
use borrow.Author.Tests.{ltb-true, lt-ltb}
use Rattle.combine.specs.Below.{count_below}
use Rattle.combine.specs.Laws.Below.{bool-ext}
use Rattle.combine.specs.First.{first_below}
use Rattle.combine.specs.Lists.{any, total, is_in}
use Rattle.placing.specs.Sizes.{user_of}
use Rattle.segments.specs.Free.{SegmentRecord, SegmentOpening, SegmentHouse, record_segments, opening_segments, place_segments, is_free, free_count, lowest_free, has_room}
use Rattle.segments.specs.Laws.Sound.{times, times_in_record, times_but, times_in_opening, mentions, SoundPlace, SoundEntry, SoundHouse}
use Rattle.model.specs.Model.{held_by, own_flag, owned_by, free, model_level}
use Rattle.model.specs.View.{view_place, view_entry, view_house}
use Rattle.combine.specs.Laws.Tests.{by-test, true_of, false_of, or_split}
use Rattle.proof_requests_sound.specs.Ranges.{InRange}
use Rattle.combine.specs.Laws.Sums.{none-total, not-any}
use Rattle.proof_requests_sound.specs.Counts.{times-some, times_none}
use Rattle.combine.specs.Laws.Mapped.{total-seen}
use Rattle.proof_model.specs.Sums.{sum_below, sum_alike, sum-zero, sum-add, sum-total, pick, count-and-sum}

-- ---- in one list

but-more : (b : Bool) (x y : ℕ) → cond b 0 (x + y) ≡ cond b 0 x + cond b 0 y
but-more true x y = refl
but-more false x y = refl

but-zero : (b : Bool) → ◌≡◌ {A = ℕ} (cond b 0 0) 0
but-zero true = refl
but-zero false = refl

own-flag : (b : Bool) → cond b 0 1 ≡ own_flag b
own-flag true = refl
own-flag false = refl

range-tail : (n x : ℕ) (xs : List ℕ) → InRange n (x ∷ xs) → InRange n xs
range-tail n x xs h k l = h (suc k) (omega arith)

sum-but : (n : ℕ) (but l : List ℕ) → InRange n l → sum_below n (λ g. times_but g but l) ≡ total own_flag (map (λ g. is_in g but) l)
sum-but n but [] h = sum_alike n _ (λ g. 0) (λ g. but-zero (is_in g but)) ∙ sum-zero n
sum-but n but (x ∷ xs) h =
    sum_alike n _ _ (λ g. but-more (is_in g but) (cond (eqb g x) 1 0) (times g xs))
    ∙ sum-add n (λ g. cond (is_in g but) 0 (cond (eqb g x) 1 0)) (λ g. times_but g but xs)
    ∙ ap₂ (λ (a b : ℕ). a + b) (pick n x (λ g. is_in g but) (h 0 (zero-lt-suc _)) ∙ own-flag (is_in x but)) (sum-but n but xs (range-tail n x xs h))

own-all : (l : List ℕ) → total own_flag (map (λ g. is_in g []) l) ≡ length l
own-all [] = refl
own-all (x ∷ xs) = omega (arith, own-all xs)

-- ---- in a record, and in an opening but for its record's

held-record : (s : List ℕ) (n : ℕ) (r : Option SegmentRecord) → SoundPlace n r → sum_below n (λ g. times_in_record g r) ≡ held_by (view_place s r)
held-record s n none f = sum-zero n
held-record s n (some r) f = sum-but n [] r.content f.file.range ∙ own-all r.content ∙ f.file.each

owned-opening : (s : List ℕ) (n u : ℕ) (rs : List (Option SegmentRecord)) (x : Option SegmentOpening) → SoundEntry n u rs x
    → sum_below n (λ g. times_in_opening rs g x) ≡ owned_by (view_entry s rs x)
owned-opening s n u rs none f = sum-zero n
owned-opening s n u rs (some x) f = sum-but n (place_segments rs x.handle.place) x.content f.file.range

-- ---- a segment is free, or listed once

some-total : {A : Type 0} (p : A → Bool) (f : A → ℕ) (l : List A) → ((x : A) → T (p x) → 1 ≤ f x) → T (any p l) → 1 ≤ total f l
some-total p f [] h t = absurd t
some-total p f (x ∷ xs) h t = or_split (p x) (any p xs) t (λ s. omega (arith, h x s)) (λ s. omega (arith, some-total p f xs h s))

module _ (h : SegmentHouse) (once : (g : ℕ) → mentions h g ≤ 1) (g : ℕ) where
  abbrev in_record : Option SegmentRecord → Bool
  in_record r = is_in g (record_segments r)

  abbrev in_opening : Option SegmentOpening → Bool
  in_opening x = is_in g (opening_segments x)

  no_place : T (not (any in_record h.records)) → (p : Option ℕ) → is_in g (place_segments h.records p) ≡ false
  no_place t none = refl
  no_place t (some p) = false_of (is_in g (record_segments (get_or h.records p none))) (not-any in_record h.records p none tt t)

  opening-some : T (not (any in_record h.records)) → (x : Option SegmentOpening) → T (in_opening x) → 1 ≤ times_in_opening h.records g x
  opening-some t none k = absurd k
  opening-some t (some x) k = rw (no_place t x.handle.place) (times-some g x.content k)

  opening-none : T (not (any in_record h.records)) → (x : Option SegmentOpening) → T (not (in_opening x)) → times_in_opening h.records g x ≡ 0
  opening-none t none k = refl
  opening-none t (some x) k = rw (no_place t x.handle.place) (times_none g x.content k)

  listed-once : cond (is_free h g) 1 0 + mentions h g ≡ 1
  unfolding is_free
  listed-once = by-test (any in_record h.records)
      (λ t. rw (true_of (any in_record h.records) t)
      (omega (arith, once g, some-total in_record (times_in_record g) h.records (λ r k. times-some g (record_segments r) k) t)))
      (λ t. rw (false_of (any in_record h.records) t) (by-test (any in_opening h.openings)
      (λ k. rw (true_of (any in_opening h.openings) k)
      (omega (arith, once g, some-total in_opening (times_in_opening h.records g) h.openings (opening-some t) k)))
      (λ k. rw (false_of (any in_opening h.openings) k)
      (omega (
        arith,
        none-total in_record (times_in_record g) h.records (λ r q. times_none g (record_segments r) q) t,
        none-total in_opening (times_in_opening h.records g) h.openings (opening-none t) k,
      )))))

-- ---- a test that some number below n passes

some_first : (n : ℕ) (f : ℕ → Bool) → (0 < count_below n f → first_below n f < n) × (first_below n f < n → 0 < count_below n f)
unfolding first_below count_below
some_first zero f = ((λ l. l), (λ l. l))
some_first (suc n) f = go (ltb (first_below n f) n) (f n) refl (some_first n f)
  where
    go : (a b : Bool) → ltb (first_below n f) n ≡ a → (0 < count_below n f → first_below n f < n) × (first_below n f < n → 0 < count_below n f)
        → (0 < cond b (count_below n f + 1) (count_below n f) → cond a (first_below n f) (cond b n (suc n)) < suc n)
        × (cond a (first_below n f) (cond b n (suc n)) < suc n → 0 < cond b (count_below n f + 1) (count_below n f))
    go true true e w = ((λ l. let z = ltb-true (first_below n f) n e in omega arith), (λ l. omega arith))
    go true false e w = ((λ l. let z = ltb-true (first_below n f) n e in omega arith), (λ l. w.1 (ltb-true (first_below n f) n e)))
    go false true e w = ((λ l. omega arith), (λ l. omega arith))
    go false false e w = ((λ l. absurd (no_lt e (w.0 l))), (λ l. omega arith))
      where
        no_lt : ltb (first_below n f) n ≡ false → first_below n f < n → ⊥
        no_lt e l = let z : true ≡ false = sym (lt-ltb (first_below n f) n l) ∙ e in let y : ◌≡◌ {A = ℕ} 0 1 = cc in omega arith

-- ---- the number of free segments

module _ (s : List ℕ) (h : SegmentHouse) (sound : SoundHouse h) where
  pub free_seen : free (view_house s h) ≡ free_count h
  unfolding free free_count
  free_seen =
      let n = h.segments in
      let listed : sum_below n (mentions h) ≡ total held_by (map (view_place s) h.records) + total owned_by (map (view_entry s h.records) h.openings) =
      sum-add n (λ g. total (times_in_record g) h.records) (λ g. total (times_in_opening h.records g) h.openings)
      ∙ ap₂ (λ (x y : ℕ). x + y)
      (sum-total n times_in_record h.records
      ∙ total-seen (λ r. sum_below n (λ g. times_in_record g r)) held_by (view_place s) h.records none (λ j. held-record s n (get_or h.records j none) (sound.records j)))
      (sum-total n (times_in_opening h.records) h.openings
      ∙ total-seen (λ x. sum_below n (λ g. times_in_opening h.records g x)) owned_by (view_entry s h.records) h.openings none
      (λ j. owned-opening s n (user_of j) h.records (get_or h.openings j none) (sound.openings j))) in
      omega (arith, listed, count-and-sum n (is_free h) (mentions h) (listed-once h sound.once))

  pub room-seen : model_level.room (view_house s h) ≡ has_room h
  unfolding free_count lowest_free
  room-seen =
      let w = some_first h.segments (is_free h) in
      ap (ltb 0) free_seen
      ∙ bool-ext (ltb 0 (free_count h)) (has_room h)
      (λ p. lt-ltb (lowest_free h) h.segments (w.0 (ltb-true 0 (free_count h) p)))
      (λ p. lt-ltb 0 (free_count h) (w.1 (ltb-true (lowest_free h) h.segments p)))
