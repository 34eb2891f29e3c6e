-- A fresh start is sound. Assumes nothing.
use Rattle.std.specs.Prelude.{ℕ, zero, suc, ◌/◌, ◌≤◌, ◌≡◌, refl, Bool, not, T, replicate}
use Rattle.std.proofs.Common.{arith, subst, T_not}
use Rattle.std.proofs.Math.Option.{Option, none}
use Rattle.combine.specs.Lists.{total}
use Rattle.placing.specs.Sizes.{segment_cells, places, entries}
use Rattle.rules.specs.Headings.{Handle, passes}
use Rattle.rules.specs.Rules.{is_own, is_public}
use Rattle.rules.specs.House.{works_place, fresh_house}
use Rattle.segments.specs.Free.{SegmentRecord, SegmentOpening}
use Rattle.segments.specs.Laws.Sound.{times_in_record, times_in_opening, Single, SoundHouse}
use Rattle.combine.specs.Laws.Replaced.{replicate-at}

total-none : {A : Type 0} (f : Option A → ℕ) (n : ℕ) → f none ≡ 0 → total f (replicate n none) ≡ 0
total-none f zero e = refl
total-none f (suc n) e = omega (arith, e, total-none f n e)

single-none : {A : Type 0} (f : Option A → Bool) (n : ℕ) → T (not (f none)) → Single f (replicate n none)
single-none {A} f n e i j d s t = T_not (f none) e (rw (replicate-at {A = Option A} n i none) at s)

-- "A fresh start gives it floor(length / 64) segments, at most 1,024"
pub fresh-sound : (cells : ℕ) → segment_cells ≤ cells → SoundHouse (fresh_house cells)
fresh-sound cells h =
    let q : 1 ≤ cells / segment_cells = omega arith in
    record {
      least = omega arith;
      most = omega arith;
      places = refl;
      entries = refl;
      once = λ g. omega (arith, total-none (times_in_record g) places refl, total-none (times_in_opening (replicate places none) g) entries refl);
      records = λ p. rw (replicate-at {A = Option SegmentRecord} places p none) tt;
      openings = λ i. rw (replicate-at {A = Option SegmentOpening} entries i none) tt;
      alone = λ p i j d s t. subst (λ (y : Option Handle). T (passes (works_place p) y)) (replicate-at entries i none) s;
      own = λ u n. single-none (passes (is_own u n)) places tt;
      public = λ n. single-none (passes (is_public n)) places tt;
    }
