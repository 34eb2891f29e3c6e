-- A house stays sound when an opening ends and a record changes: it becomes the opening, or it is freed. Assumes nothing.
use Rattle.std.specs.Prelude.{ℕ, ◌+◌, ◌≤◌, ◌<◌, ◌≡◌, ◌≢◌, Bool, true, false, not, List, map, eqb, get_or, set}
use Rattle.std.proofs.Common.{arith, sym, ap, ◌∙◌, T_not, get_or-set_other}
use Rattle.std.proofs.Math.Path.{refl, subst}
use Rattle.std.proofs.Math.Option.{Option, none, some}
use Rattle.std.proofs.Math.Dec.{T, eqb→eq}
use Rattle.std.proofs.Math.ListN.{length, length-set}
use Rattle.std.proofs.lemmas.List.{length-map}
use Rattle.combine.specs.Lists.{any, is_in, same}
use Rattle.combine.specs.Laws.Same.{same_true}
use Rattle.placing.specs.Sizes.{entries, user_of, greatest_user}
use Rattle.rules.specs.Headings.{Heading, filing, head_of, handle_of, passes}
use Rattle.rules.specs.Rules.{is_own, is_public, headed, without}
use Rattle.rules.specs.House.{house}
use Rattle.segments.specs.Free.{SegmentRecord, SegmentOpening, SegmentHouse, record_segments, place_segments}
use Rattle.segments.specs.Laws.Sound.{times, times_in_record, times_but, times_in_opening, SoundPlace, SoundOpen, SoundEntry, OneStretch, Tied, Placed, SoundHouse}
use Rattle.combine.specs.Laws.Tests.{by-test, true_of, false_of, and_first, and_second, not-not}
use Rattle.combine.specs.Laws.Sums.{any_at}
use Rattle.combine.specs.Laws.Replaced.{at_set, map-set, place-below}
use Rattle.proof_requests_sound.specs.Names.{name-of-title}
use Rattle.proof_requests_sound.specs.Allowed.{PlaceOf, Filing}
use Rattle.proof_requests_sound.specs.Counts.{times-some}
use Rattle.proof_requests_sound.specs.Away.{Away, entry-away, away-works, away-filed}
use Rattle.proof_requests_sound.specs.Alone.{alone-end, single-set}
use Rattle.proof_requests_sound.specs.Listed.{shared-once, once-record}
use Rattle.proof_requests_sound.specs.Opened.{sound-at, entry_in}

module _ (h : SegmentHouse) (s : SoundHouse h) (i : ℕ) (il : i < entries) where
  -- ---- a record changes, and the entry ends

  record-sound : (p : ℕ) (y : Option SegmentRecord) → p < length h.records → Away h i p → SoundPlace h.segments y
      → ((g : ℕ) → times_in_record g y ≤ times_in_record g (get_or h.records p none) + times_in_opening h.records g (get_or h.openings i none))
      → ((u : ℕ) (n : List ℕ) → T (passes (is_own u n) (head_of y)) → (j : ℕ) → j ≢ p → T (passes (is_own u n) (get_or (map head_of h.records) j none)) → ⊥)
      → ((n : List ℕ) → T (passes (is_public n) (head_of y)) → (j : ℕ) → j ≢ p → T (passes (is_public n) (get_or (map head_of h.records) j none)) → ⊥)
      → SoundHouse (house h.segments (set h.records p y) (set h.openings i none))
  unfolding Away
  record-sound p y pl away f once own public =
      let heads-in : p < length (map head_of h.records) = rw (length-map h.records head_of) pl in
      record {
        least = s.least;
        most = s.most;
        places = length-set h.records p y ∙ s.places;
        entries = length-set h.openings i none ∙ s.entries;
        once = once-record h i p y (entry_in h s i il) pl s.once away once;
        records = at_set (λ j r. SoundPlace h.segments r) h.records p y none pl f (λ j d. s.records j);
        openings = at_set (λ j x. SoundEntry h.segments (user_of j) (set h.records p y) x) h.openings i none none (entry_in h s i il) tt
            (λ j d. entry-away h.records p y h.segments (user_of j) (get_or h.openings j none) (away j d) (s.openings j));
        alone = rw (map-set handle_of h.openings i none) (alone-end (map handle_of h.openings) i s.alone);
        own = λ u n. rw (map-set head_of h.records p y) (single-set (passes (is_own u n)) (map head_of h.records) p (head_of y) heads-in (s.own u n) (own u n));
        public = λ n. rw (map-set head_of h.records p y) (single-set (passes (is_public n)) (map head_of h.records) p (head_of y) heads-in (s.public n) (public n));
      }

  -- ---- at an open entry

  module _ (x : SegmentOpening) (ix : get_or h.openings i none ≡ some x) where
    before : SoundOpen h.segments (user_of i) h.records x
    before = sound-at h s i x ix

    abbrev heads : List (Option Heading)
    heads = map head_of h.records

    place_in : (q : Option ℕ) (p : ℕ) → x.handle.place ≡ q → PlaceOf heads q p → p < length h.records
    place_in none p e k = rw (length-map h.records head_of) at k.0
    place_in (some q) p e k =
        let z : Placed (user_of i) h.records x (some q) = subst (λ (c : Option ℕ). Placed (user_of i) h.records x c) e before.placed in
        rw k at (place-below h.records q z.0 z.1)

    tied-stretch : (b : Bool) (u : ℕ) (r : SegmentRecord) → T b → Tied b u r x → OneStretch r x
    tied-stretch true u r w k = k.2
    tied-stretch false u r w k = absurd w

    -- the record takes the opening's list
    takes-list : (p : ℕ) (q : Option ℕ) → x.handle.place ≡ q → PlaceOf heads q p → T x.handle.permit
        → (g : ℕ) → times g x.content ≤ times_in_record g (get_or h.records p none) + times_but g (place_segments h.records q) x.content
    takes-list p none e k w g = omega arith
    takes-list p (some q) e k w g =
        let z : Placed (user_of i) h.records x (some q) = subst (λ (c : Option ℕ). Placed (user_of i) h.records x c) e before.placed in
        let o : OneStretch z.0 x = tied-stretch x.handle.permit (user_of i) z.0 w z.2 in
        let c : record_segments (get_or h.records q none) ≡ z.0.content = ap record_segments z.1 in
        rw (← k) (by-test (is_in g (record_segments (get_or h.records q none)))
        (λ n. omega (arith, times-some g (record_segments (get_or h.records q none)) n, shared-once z.0 x o g (rw c at n)))
        (λ n. rw (false_of (is_in g (record_segments (get_or h.records q none))) n) (omega arith)))

    without_at : (p j : ℕ) (q : Option ℕ) → PlaceOf heads q p → j ≢ p → get_or (without heads q) j none ≡ get_or heads j none
    without_at p j none k d = refl
    without_at p j (some q) k d = get_or-set_other heads q j none none (λ e. d (e ∙ k))

    none-else : (f : Heading → Bool) (p : ℕ) → PlaceOf heads x.handle.place p → T (not (any (passes f) (without heads x.handle.place)))
        → (j : ℕ) → j ≢ p → T (passes f (get_or heads j none)) → ⊥
    none-else f p k n j d t = T_not (any (passes f) (without heads x.handle.place)) n
        (any_at (passes f) (without heads x.handle.place) j none tt (rw (without_at p j x.handle.place k d) t))

    same_name : (n m : List ℕ) → T (same n m) → n ≡ m
    same_name n m t = same_true n m (true_of (same n m) t)

    pub filed-sound : (u p : ℕ) (r : Heading) → u ≤ greatest_user → Filing u heads x.handle p r
        → SoundHouse (house h.segments (set h.records p (some (filing r x.content))) (set h.openings i none))
    unfolding headed
    filed-sound u p r ul f =
        let name = x.handle.name in
        let pl = place_in x.handle.place p refl f.place in
        subst (λ (q : Heading). SoundHouse (house h.segments (set h.records p (some (filing q x.content))) (set h.openings i none))) (sym f.heading)
        (record-sound p (some (filing (headed f.public u x.handle) x.content)) pl (away-filed h s i p x u r ix f)
        (record { file = before.file; owned = ul; twelve = before.twelve; name = name-of-title name before.title f.named })
        (λ g. rw ix (takes-list p x.handle.place refl f.place f.permit g))
        (λ v n k j d m.
        let eu : u ≡ v = eqb→eq u v (and_first (eqb u v) _ k) in
        let en : name ≡ n = same_name name n (and_second (eqb u v) _ k) in
        none-else (is_own u name) p f.place f.none_own j d (rw (eu, en) m))
        (λ n k j d m.
        let pb : T f.public = not-not f.public (and_first (not (not f.public)) _ k) in
        let en : name ≡ n = same_name name n (and_second (not (not f.public)) _ k) in
        none-else (is_public name) p f.place (f.none_public pb) j d (rw en m)))

    pub freed-sound : (p : ℕ) → x.handle.place ≡ some p → T x.handle.permit
        → SoundHouse (house h.segments (set h.records p none) (set h.openings i none))
    freed-sound p q w =
        record-sound p none (place_in (some p) p q refl) (away-works h s i p x ix q w) tt (λ g. omega arith) (λ v n k. absurd k) (λ n k. absurd k)
