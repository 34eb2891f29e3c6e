-- How often segments are listed: who else lists one, and free ones. Assumes nothing.
use Rattle.std.specs.Prelude.{ℕ, zero, suc, ◌+◌, ◌≤◌, ◌<◌, ◌≡◌, refl, ◌≢◌, Bool, true, false, not, cond, List, [], ◌∷◌, T, eqb, length, get_or, take, drop}
use Rattle.std.proofs.Common.{arith, le_of_suc-le-suc, not-suc-le-zero, le_refl, zero-lt-suc, sym, ap, eqb→eq}
use Rattle.std.proofs.Math.Option.{Option, none, some}
use Rattle.std.proofs.Math.Dec.{not_T}
use Rattle.combine.specs.Lists.{any, total, put, is_in}
use Rattle.segments.specs.Free.{SegmentOpening, SegmentHouse, record_segments, opening_segments, place_segments, is_free}
use Rattle.segments.specs.Laws.Sound.{times, times_in_record, times_but, times_in_opening, mentions}
use Rattle.combine.specs.Laws.Tests.{by-test, true_of, false_of, or_split, or-first, or-second, nor-first, nor-second, eqb-eq}
use Rattle.combine.specs.Laws.Sums.{total-at, total-two, none-total}

-- ---- in one list

pub times-some : (g : ℕ) (l : List ℕ) → T (is_in g l) → 1 ≤ times g l
times-some g [] t = absurd t
times-some g (x ∷ xs) t = or_split (eqb g x) (is_in g xs) t (λ h. rw (true_of (eqb g x) h) (omega arith)) (λ h. omega (arith, times-some g xs h))

pub times_none : (g : ℕ) (l : List ℕ) → T (not (is_in g l)) → times g l ≡ 0
times_none g [] t = refl
times_none g (x ∷ xs) t =
    rw (false_of (eqb g x) (nor-first (eqb g x) (is_in g xs) t)) (omega (arith, times_none g xs (nor-second (eqb g x) (is_in g xs) t)))

pub times-at : (g : ℕ) (l : List ℕ) (k : ℕ) → k < length l → get_or l k 0 ≡ g → 1 ≤ times g l
times-at g [] k h e = absurd (not-suc-le-zero h)
times-at g (x ∷ xs) zero h e = rw (eqb-eq g x (sym e)) (omega arith)
times-at g (x ∷ xs) (suc k) h e = omega (arith, times-at g xs k (le_of_suc-le-suc h) e)

pub times-two : (g : ℕ) (l : List ℕ) (k j : ℕ) → k < length l → j < length l → k ≢ j → get_or l k 0 ≡ g → get_or l j 0 ≡ g → 2 ≤ times g l
times-two g [] k j h i d e f = absurd (not-suc-le-zero h)
times-two g (x ∷ xs) zero zero h i d e f = absurd (d refl)
times-two g (x ∷ xs) zero (suc j) h i d e f = rw (eqb-eq g x (sym e)) (omega (arith, times-at g xs j (le_of_suc-le-suc i) f))
times-two g (x ∷ xs) (suc k) zero h i d e f = rw (eqb-eq g x (sym f)) (omega (arith, times-at g xs k (le_of_suc-le-suc h) e))
times-two g (x ∷ xs) (suc k) (suc j) h i d e f = omega (arith, times-two g xs k j (le_of_suc-le-suc h) (le_of_suc-le-suc i) (λ w. d (ap suc w)) e f)

pub in-at : (g : ℕ) (l : List ℕ) (k : ℕ) → k < length l → get_or l k 0 ≡ g → T (is_in g l)
in-at g [] k h e = absurd (not-suc-le-zero h)
in-at g (x ∷ xs) zero h e = or-first (eqb g x) (is_in g xs) (rw (eqb-eq g x (sym e)) tt)
in-at g (x ∷ xs) (suc k) h e = or-second (eqb g x) (is_in g xs) (in-at g xs k (le_of_suc-le-suc h) e)

pub in-where : (g : ℕ) (l : List ℕ) → T (is_in g l) → (k : ℕ) × (k < length l) × (get_or l k 0 ≡ g)
in-where g [] t = absurd t
in-where g (x ∷ xs) t = or_split (eqb g x) (is_in g xs) t
    (λ e. (0, zero-lt-suc _, sym (eqb→eq g x e)))
    (λ e. let r = in-where g xs e in (suc r.0, omega (arith, r.1), r.2))

-- ---- in a list that changes

pub times-take : (g k : ℕ) (l : List ℕ) → times g (take k l) ≤ times g l
times-take g zero l = omega arith
times-take g (suc k) [] = le_refl _
times-take g (suc k) (x ∷ xs) = omega (arith, times-take g k xs)

pub times-drop : (g k : ℕ) (l : List ℕ) → times g (drop k l) ≤ times g l
times-drop g zero l = le_refl _
times-drop g (suc k) [] = le_refl _
times-drop g (suc k) (x ∷ xs) = omega (arith, times-drop g k xs)

pub times-put : (g z : ℕ) (l : List ℕ) (k : ℕ) → times z (put l k g) ≤ times z l + cond (eqb z g) 1 0
times-put g z [] k = omega arith
times-put g z (x ∷ xs) zero = omega arith
times-put g z (x ∷ xs) (suc k) = omega (arith, times-put g z xs k)

-- ---- but for a record's

pub but-less : (g : ℕ) (but l k : List ℕ) (more : ℕ) → times g l ≤ times g k + more → times_but g but l ≤ times_but g but k + more
but-less g but l k more h = go (is_in g but)
  where
    go : (b : Bool) → cond b 0 (times g l) ≤ cond b 0 (times g k) + more
    go true = omega arith
    go false = h

pub but-own : (g : ℕ) (l : List ℕ) → times_but g l l ≡ 0
but-own g l = by-test (is_in g l) (λ t. rw (true_of (is_in g l) t) refl) (λ t. rw (false_of (is_in g l) t) (times_none g l t))

pub but-none : (g : ℕ) (but l : List ℕ) → T (not (is_in g l)) → times_but g but l ≡ 0
but-none g but l t = go (is_in g but)
  where
    go : (b : Bool) → cond b 0 (times g l) ≡ 0
    go true = refl
    go false = times_none g l t

-- ---- in all lists

-- a segment that the opening at i has by itself is in no record, and in no other opening
module _ (h : SegmentHouse) (once : (g : ℕ) → mentions h g ≤ 1) (i g : ℕ) (own : 1 ≤ times_in_opening h.records g (get_or h.openings i none)) where
  pub own-record : (p : ℕ) → T (not (is_in g (record_segments (get_or h.records p none))))
  own-record p = not_T (is_in g (record_segments (get_or h.records p none))) (λ t.
      omega (
        arith,
        once g,
        times-some g (record_segments (get_or h.records p none)) t,
        total-at (times_in_record g) h.records p none refl,
        total-at (times_in_opening h.records g) h.openings i none refl,
      ))

  own-place : (p : Option ℕ) → T (not (is_in g (place_segments h.records p)))
  own-place none = tt
  own-place (some p) = own-record p

  pub own-opening : (j : ℕ) → j ≢ i → T (not (is_in g (opening_segments (get_or h.openings j none))))
  own-opening j d = not_T (is_in g (opening_segments (get_or h.openings j none))) (λ t.
      go (get_or h.openings j none) t (total-two (times_in_opening h.records g) h.openings j i none refl d))
    where
      go : (x : Option SegmentOpening) → T (is_in g (opening_segments x))
          → times_in_opening h.records g x + times_in_opening h.records g (get_or h.openings i none) ≤ total (times_in_opening h.records g) h.openings → ⊥
      go none t l = t
      go (some x) t l = two (rw (false_of (is_in g (place_segments h.records x.handle.place)) (own-place x.handle.place)) at l)
        where
          two : times g x.content + times_in_opening h.records g (get_or h.openings i none) ≤ total (times_in_opening h.records g) h.openings → ⊥
          two l = omega (arith, once g, times-some g x.content t)

-- "A segment is free if no catalogue record and no opening lists it"
pub free-unlisted : (h : SegmentHouse) (g : ℕ) → T (is_free h g) → mentions h g ≡ 0
unfolding is_free
free-unlisted h g t =
    let in_records = any (λ r. is_in g (record_segments r)) h.records in
    let in_openings = any (λ x. is_in g (opening_segments x)) h.openings in
    omega (
      arith,
      none-total (λ r. is_in g (record_segments r)) (times_in_record g) h.records (λ r k. times_none g (record_segments r) k) (nor-first in_records in_openings t),
      none-total (λ x. is_in g (opening_segments x)) (times_in_opening h.records g) h.openings in-opening (nor-second in_records in_openings t),
    )
  where
    in-opening : (x : Option SegmentOpening) → T (not (is_in g (opening_segments x))) → times_in_opening h.records g x ≡ 0
    in-opening none k = refl
    in-opening (some x) k = but-none g (place_segments h.records x.handle.place) x.content k
