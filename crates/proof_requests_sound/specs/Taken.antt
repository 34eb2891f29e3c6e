-- The segment that is stored into: it is in range, and nothing else lists it. Assumes nothing.
use Rattle.std.specs.Prelude.{ℕ, zero, suc, ◌≤◌, ◌<◌, ◌≡◌, ◌≢◌, Bool, not, ◌||◌, cond, ltb, length, get_or}
use Rattle.std.proofs.Common.{arith, ltb→lt}
use Rattle.std.proofs.Math.Path.{refl, subst}
use Rattle.std.proofs.Math.Bool.{true, false}
use Rattle.std.proofs.Math.Option.{Option, none, some}
use Rattle.std.proofs.Math.Dec.{T, T_not, nleb→lt}
use Rattle.combine.specs.First.{first_below}
use Rattle.combine.specs.Lists.{any, is_in}
use Rattle.store.specs.Store.{segment_of}
use Rattle.rules.specs.Headings.{slot_in}
use Rattle.segments.specs.Free.{SegmentOpening, SegmentHouse, record_segments, opening_segments, place_segments, is_free, lowest_free, has_room}
use Rattle.segments.specs.Deeds.{lacks, segment_at, shares_at, takes_at, target}
use Rattle.segments.specs.Laws.Sound.{times, times_in_opening, mentions}
use Rattle.combine.specs.Laws.Tests.{false_of, nor-first, nor-second}
use Rattle.combine.specs.Laws.Sums.{total-at, not-any}
use Rattle.proof_requests_sound.specs.Counts.{times-at, times-two, in-at, own-record, own-opening}

-- ---- "A taken segment is always the lowest-numbered free one"

first_passes : (n : ℕ) (f : ℕ → Bool) → first_below n f < n → T (f (first_below n f))
unfolding first_below
first_passes zero f h = absurd (omega arith)
first_passes (suc n) f h = go (ltb (first_below n f) n) (f n) refl refl (first_passes n f) h
  where
    go : (a b : Bool) → ltb (first_below n f) n ≡ a → f n ≡ b → (first_below n f < n → T (f (first_below n f)))
        → cond a (first_below n f) (cond b n (suc n)) < suc n → T (f (cond a (first_below n f) (cond b n (suc n))))
    go true b ea eb earlier l = earlier (ltb→lt (first_below n f) n (rw ea tt))
    go false true ea eb earlier l = rw eb tt
    go false false ea eb earlier l = absurd (omega arith)

pub taken_free : (h : SegmentHouse) → T (has_room h) → T (is_free h (lowest_free h))
unfolding lowest_free
taken_free h t = first_passes h.segments (is_free h) (ltb→lt (lowest_free h) h.segments t)

-- ---- the target of a store of entry i into place j of its opening x's list

pub record Target (h : SegmentHouse) (i : ℕ) (x : SegmentOpening) (j g : ℕ) : Type 0 where
  pub small : g < h.segments
  pub no_record : (p : ℕ) → T (not (is_in g (record_segments (get_or h.records p none))))
  pub no_other : (k : ℕ) → k ≢ i → T (not (is_in g (opening_segments (get_or h.openings k none))))
  pub apart : (k : ℕ) → k < length x.content → k ≢ j → get_or x.content k 0 ≢ g

module _ (h : SegmentHouse) (once : (g : ℕ) → mentions h g ≤ 1) (i : ℕ) (x : SegmentOpening) (ix : get_or h.openings i none ≡ some x)
    (range : (k : ℕ) → k < length x.content → get_or x.content k 0 < h.segments) where
  free-target : (j g : ℕ) → g < h.segments → T (is_free h g) → Target h i x j g
  unfolding is_free
  free-target j g l f =
      let in_records = any (λ r. is_in g (record_segments r)) h.records in
      let in_openings = any (λ y. is_in g (opening_segments y)) h.openings in
      let no_record = nor-first in_records in_openings f in
      let no_opening = nor-second in_records in_openings f in
      let mine : T (not (is_in g x.content)) =
      subst (λ (y : Option SegmentOpening). T (not (is_in g (opening_segments y)))) ix (not-any (λ y. is_in g (opening_segments y)) h.openings i none tt no_opening) in
      record {
        small = l;
        no_record = λ p. not-any (λ r. is_in g (record_segments r)) h.records p none tt no_record;
        no_other = λ k d. not-any (λ y. is_in g (opening_segments y)) h.openings k none tt no_opening;
        apart = λ k w d e. T_not (is_in g x.content) mine (in-at g x.content k w e);
      }

  own-target : (j : ℕ) → j < length x.content → T (not (is_in (get_or x.content j 0) (place_segments h.records x.handle.place)))
      → Target h i x j (get_or x.content j 0)
  own-target j l f =
      let g = get_or x.content j 0 in
      let e : times_in_opening h.records g (get_or h.openings i none) ≡ times g x.content =
      rw (ix, false_of (is_in g (place_segments h.records x.handle.place)) f) refl in
      let own : 1 ≤ times_in_opening h.records g (get_or h.openings i none) = rw e (times-at g x.content j l refl) in
      record {
        small = range j l;
        no_record = own-record h once i g own;
        no_other = own-opening h once i g own;
        apart = λ k w d q. absurd (omega (arith, times-two g x.content k j w l d q refl, e, once g, total-at (times_in_opening h.records g) h.openings i none refl));
      }

  -- where it takes a segment there is room
  pub target-of : (v : ℕ) → (T (takes_at h.records x v) → T (has_room h)) → Target h i x (slot_in x.handle v) (target h x v)
  unfolding target segment_of
  target-of v room = go (takes_at h.records x v) refl
    where
      go : (b : Bool) → takes_at h.records x v ≡ b → Target h i x (slot_in x.handle v) (cond b (lowest_free h) (segment_at x v))
      go true e =
          let t : T (has_room h) = room (rw e tt) in
          free-target (slot_in x.handle v) (lowest_free h) (ltb→lt (lowest_free h) h.segments t) (taken_free h t)
      go false e =
          let n : T (not (lacks x v || shares_at h.records x v)) = rw e tt in
          own-target (slot_in x.handle v)
          (nleb→lt (length x.content) (slot_in x.handle v) (nor-first (lacks x v) (shares_at h.records x v) n))
          (nor-second (lacks x v) (shares_at h.records x v) n)
