-- Each segment stays listed at most once. Assumes nothing.
use Rattle.std.specs.Prelude.{ℕ, suc, ◌+◌, ◌≤◌, ◌<◌, ◌≡◌, refl, ◌≢◌, not, cond, List, [], ◌∷◌, T, eqb, length, get_or, set}
use Rattle.std.proofs.Common.{suc-le-suc, arith, zero-lt-suc, sym, ap, ◌∙◌, get_or-set_same, get_or-set_other}
use Rattle.std.proofs.Math.Decide.{ℕ_discrete}
use Rattle.std.proofs.Math.Option.{Option, none, some}
use Rattle.combine.specs.Lists.{total, is_in, put}
use Rattle.rules.specs.Headings.{handle_of, passes}
use Rattle.rules.specs.House.{house, opens_place}
use Rattle.segments.specs.Free.{SegmentRecord, SegmentOpening, SegmentHouse, place_segments, is_free}
use Rattle.segments.specs.Laws.Sound.{times, times_in_record, times_but, times_in_opening, mentions, OneStretch}
use Rattle.combine.specs.Laws.Tests.{eqb-ne, eqb-eq}
use Rattle.combine.specs.Laws.Sums.{total-set, total-alike}
use Rattle.proof_requests_sound.specs.Counts.{times-put, but-less, in-where, free-unlisted}
use Rattle.proof_requests_sound.specs.Away.{Away, segments-away}

-- ---- an entry

module _ (h : SegmentHouse) (once : (g : ℕ) → mentions h g ≤ 1) (i : ℕ) (il : i < length h.openings) where
  -- the entry's new opening lists no segment more often, but for its record's
  pub once-entry : (y : Option SegmentOpening) → ((g : ℕ) → times_in_opening h.records g y ≤ times_in_opening h.records g (get_or h.openings i none))
      → (g : ℕ) → mentions (house h.segments h.records (set h.openings i y)) g ≤ 1
  once-entry y k g = omega (arith, once g, k g, total-set (times_in_opening h.records g) h.openings i y none il)

  -- a free segment g is put into its list
  pub once-store : (g k : ℕ) (x y : SegmentOpening) → get_or h.openings i none ≡ some x → y.handle.place ≡ x.handle.place
      → y.content ≡ put x.content k g → T (is_free h g) → (z : ℕ) → mentions (house h.segments h.records (set h.openings i (some y))) z ≤ 1
  once-store g k x y ix ep es free z = go (ℕ_discrete z g)
    where
      grows : times_in_opening h.records z (some y) ≤ times_in_opening h.records z (get_or h.openings i none) + cond (eqb z g) 1 0
      grows =
          rw (ix, es, ep) (but-less z (place_segments h.records x.handle.place) (put x.content k g) x.content (cond (eqb z g) 1 0) (times-put g z x.content k))

      go : Dec (z ≡ g) → total (times_in_record z) h.records + total (times_in_opening h.records z) (set h.openings i (some y)) ≤ 1
      go (yes e) =
          let f : mentions h z ≡ 0 = free-unlisted h z (rw e free) in
          let b : ◌≡◌ {A = ℕ} (cond (eqb z g) 1 0) 1 = rw (eqb-eq z g e) refl in
          omega (arith, grows, total-set (times_in_opening h.records z) h.openings i (some y) none il)
      go (no d) =
          let b : ◌≡◌ {A = ℕ} (cond (eqb z g) 1 0) 0 = rw (eqb-ne z g d) refl in
          omega (arith, once z, grows, total-set (times_in_opening h.records z) h.openings i (some y) none il)

-- ---- a record and the entry that works on it

times-nowhere : (g : ℕ) (l : List ℕ) → ((k : ℕ) → k < length l → get_or l k 0 ≢ g) → times g l ≡ 0
times-nowhere g [] h = refl
times-nowhere g (x ∷ xs) h = rw (eqb-ne g x (λ e. h 0 (zero-lt-suc _) (sym e))) (omega (arith, times-nowhere g xs (λ k l. h (suc k) (suc-le-suc l))))

times-one : (g : ℕ) (l : List ℕ) → ((j k : ℕ) → j < length l → k < length l → get_or l j 0 ≡ g → get_or l k 0 ≡ g → j ≡ k) → times g l ≤ 1
times-one g [] h = omega arith
times-one g (x ∷ xs) h = go (ℕ_discrete g x) (times-one g xs (λ j k a b e f. let z = h (suc j) (suc k) (suc-le-suc a) (suc-le-suc b) e f in omega arith))
  where
    go : Dec (g ≡ x) → times g xs ≤ 1 → cond (eqb g x) 1 0 + times g xs ≤ 1
    go (yes e) ih = rw (eqb-eq g x e, times-nowhere g xs (λ k l f. let z = h 0 (suc k) (zero-lt-suc _) (suc-le-suc l) (sym e) f in omega arith)) (omega arith)
    go (no d) ih = rw (eqb-ne g x d) (omega arith)

-- of a record's segments the opening lists each at most once
pub shared-once : (r : SegmentRecord) (x : SegmentOpening) → OneStretch r x → (g : ℕ) → T (is_in g r.content) → times g x.content ≤ 1
shared-once r x o g t =
    let w = in-where g r.content t in
    times-one g x.content (λ j k a b e f. let p = o j w.0 a w.1 (e ∙ sym w.2) in let q = o k w.0 b w.1 (f ∙ sym w.2) in omega arith)

-- the record at p becomes y, the entry i ends; no other opening is of that record
pub once-record : (h : SegmentHouse) (i p : ℕ) (y : Option SegmentRecord) → i < length h.openings → p < length h.records
    → ((g : ℕ) → mentions h g ≤ 1) → Away h i p
    → ((g : ℕ) → times_in_record g y ≤ times_in_record g (get_or h.records p none) + times_in_opening h.records g (get_or h.openings i none))
    → (g : ℕ) → mentions (house h.segments (set h.records p y) (set h.openings i none)) g ≤ 1
unfolding Away
once-record h i p y il pl once a k g =
    let e : total (times_in_opening (set h.records p y) g) (set h.openings i none) ≡ total (times_in_opening h.records g) (set h.openings i none) =
    total-alike _ _ (set h.openings i none) none (λ j. other j (ℕ_discrete j i)) in
    omega (arith, once g, k g, total-set (times_in_record g) h.records p y none pl, total-set (times_in_opening h.records g) h.openings i none none il)
  where
    like : (x : Option SegmentOpening) → T (not (passes (opens_place p) (handle_of x))) → times_in_opening (set h.records p y) g x ≡ times_in_opening h.records g x
    like none n = refl
    like (some x) n = ap (λ (l : List ℕ). times_but g l x.content) (segments-away h.records p y x.handle.place n)

    other : (j : ℕ) → Dec (j ≡ i)
        → times_in_opening (set h.records p y) g (get_or (set h.openings i none) j none) ≡ times_in_opening h.records g (get_or (set h.openings i none) j none)
    other j (yes e) = rw e (rw (get_or-set_same h.openings i none none il) refl)
    other j (no n) = rw (get_or-set_other h.openings i j none none n) (like (get_or h.openings j none) (a j n))
