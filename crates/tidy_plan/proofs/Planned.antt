-- The kinds are what the tables say of the segments, and the pairs are the moves of a tidying. Assumes nothing.
use Prim.Native.Nat.{ℕ, ◌+◌, ◌-◌, ◌*◌, ◌≤◌, ◌<◌}
use native.Mathlib.Omega.{arith}
use mathlib.Core.Path.{◌≡◌, refl, sym, ap, ◌∙◌, subst}
use mathlib.Core.Bool.{Bool, not, ◌&&◌}
use mathlib.Core.List.{List, []}
use borrow.Author.Tests.{lt-ltb}
use lib.Dec.{eqb, ltb, leb}
use lib.ListN.{length, get_or, take, replicate, drop_of_length-le}
use lib.Seq.{paste, take-paste, take_all, length-paste}
use Rattle.combine.specs.Below.{count_below, picked}
use Rattle.combine.specs.Lists.{paired}
use Rattle.combine.specs.Laws.Below.{count-le, count-cong}
use Rattle.combine.specs.Laws.Counts.{count-split, count-few}
use Rattle.combine.specs.Laws.Pairs.{length-paired}
use Rattle.combine.specs.Laws.Picked.{length-picked, picked-cong, picked-below}
use Rattle.combine.specs.Laws.Replaced.{replicate-at}
use Rattle.segments.specs.Free.{SegmentHouse, is_free}
use Rattle.segments.specs.Moves.{is_listed, listed_count, is_high, tidy_moves}
use Rattle.tables.specs.Layout.{segments_in}
use Rattle.tables.specs.Laws.Sound.{Ranged}
use Rattle.cells.specs.Says.{house_of}
use Rattle.proof_moves.specs.Moves.{is_vacant}
use Rattle.proof_moves.specs.Tidying.{is_gap, listed-few, as_many, tidy-pairs}
use Rattle.moves_pairs.specs.Kinds.{is_kind}
use Rattle.tidy_plan.specs.Kinds.{kind_of}
use Rattle.tidy_plan.proofs.Sorting.{kind-one, kind-two}

-- ---- what they are of the house that the tables say

-- the marks were all 0, and then those of what is listed were set
free-marks : (h : SegmentHouse) (marks : List ℕ) → ((g : ℕ) → eqb (get_or marks g 0) 0 ≡ (eqb (get_or (replicate 1024 0) g 0) 0 && is_free h g)) → (g : ℕ) → eqb (get_or marks g 0) 0 ≡ is_free h g
free-marks h marks marked g = marked g ∙ ap (λ (n : ℕ). eqb n 0 && is_free h g) (replicate-at {A = ℕ} 1024 g 0)

module _ (h : SegmentHouse) (marks kinds : List ℕ) (low : ℕ)
    (marked : (g : ℕ) → eqb (get_or marks g 0) 0 ≡ (eqb (get_or (replicate 1024 0) g 0) 0 && is_free h g))
    (sorted : (g : ℕ) → g < h.segments → get_or kinds g 0 ≡ kind_of (get_or marks g 0) g low)
    (count : low ≡ listed_count h) where
  pub high-kind : (g : ℕ) → g < h.segments → is_kind kinds 1 g ≡ is_high h g
  unfolding is_listed
  high-kind g l =
      ap (λ (n : ℕ). eqb n 1) (sorted g l) ∙ kind-one (get_or marks g 0) g low
      ∙ (λ i. not (free-marks h marks marked g i) && leb (count i) g)
      ∙ sym (ap (λ (b : Bool). (b && not (is_free h g)) && leb (listed_count h) g) (lt-ltb g h.segments l))

  pub gap-kind : (g : ℕ) → g < h.segments → is_kind kinds 2 g ≡ is_gap h g
  unfolding is_vacant
  gap-kind g l =
      ap (λ (n : ℕ). eqb n 2) (sorted g l) ∙ kind-two (get_or marks g 0) g low
      ∙ (λ i. free-marks h marks marked g i && ltb g (count i))
      ∙ sym (ap (λ (b : Bool). (b && is_free h g) && ltb g (listed_count h)) (lt-ltb g h.segments l))

-- ---- how many are listed

listed-count : (h : SegmentHouse) → count_below h.segments (λ k. ltb k h.segments && not (is_free h k)) ≡ count_below h.segments (is_listed h)
unfolding is_listed
listed-count h = refl

pub listed-rest : (h : SegmentHouse) (u : ℕ) → u ≡ count_below h.segments (is_free h) → h.segments - u ≡ listed_count h
unfolding listed_count
listed-rest h u e =
    let n = h.segments in
    let all : ℕ → Bool = λ k. ltb k n in
    let a : count_below n (λ k. ltb k n && is_free h k) + count_below n (λ k. ltb k n && not (is_free h k)) ≡ count_below n (λ k. ltb k n) = count-split n (λ k. ltb k n) (is_free h) in
    let b : count_below n (λ k. ltb k n) ≡ n = count-few n n (omega arith) in
    let c : count_below n (λ k. ltb k n && is_free h k) ≡ count_below n (is_free h) =
    count-cong (λ k. ltb k n && is_free h k) (is_free h) n (λ k l. ap (λ (x : Bool). x && is_free h k) (lt-ltb k n l)) in
    let d : count_below n (λ k. ltb k n && not (is_free h k)) ≡ count_below n (is_listed h) = listed-count h in
    omega (arith, a, b, c, d, e)

-- ---- the plan

module _ (h : SegmentHouse) (few : h.segments ≤ 1024) (kinds : List ℕ)
    (high : (g : ℕ) → g < h.segments → is_kind kinds 1 g ≡ is_high h g) (gap : (g : ℕ) → g < h.segments → is_kind kinds 2 g ≡ is_gap h g) where
  pub count-high : count_below h.segments (is_kind kinds 1) ≡ count_below h.segments (is_high h)
  count-high = count-cong (is_kind kinds 1) (is_high h) h.segments high

  pub enough : count_below h.segments (is_kind kinds 1) ≤ count_below h.segments (is_kind kinds 2)
  enough = omega (arith, count-high, as_many h, count-cong (is_kind kinds 2) (is_gap h) h.segments gap)

  pub count-few-high : count_below h.segments (is_kind kinds 1) ≤ 1024
  count-few-high = omega (arith, count-le (is_kind kinds 1) h.segments)

  plan-is : paired (picked h.segments (is_kind kinds 1)) (picked h.segments (is_kind kinds 2)) ≡ tidy_moves h
  plan-is = (λ i. paired (picked-cong (is_kind kinds 1) (is_high h) h.segments high i) (picked-cong (is_kind kinds 2) (is_gap h) h.segments gap i)) ∙ sym (tidy-pairs h)

  pub plan-first : (room : List ℕ) (c : ℕ) → length room ≡ 2048 → c ≡ count_below h.segments (is_kind kinds 1) → (after : List ℕ)
      → after ≡ paste room 0 (paired (picked h.segments (is_kind kinds 1)) (picked h.segments (is_kind kinds 2))) (2 * c) → take (2 * c) after ≡ tidy_moves h
  plan-first room c size e after q =
      let m : List ℕ = paired (picked h.segments (is_kind kinds 1)) (picked h.segments (is_kind kinds 2)) in
      let a = length-picked h.segments (is_kind kinds 1) in
      let b = length-picked h.segments (is_kind kinds 2) in
      let lm : length (paired (picked h.segments (is_kind kinds 1)) (picked h.segments (is_kind kinds 2))) ≡ 2 * c = length-paired (picked h.segments (is_kind kinds 1)) (picked h.segments (is_kind kinds 2)) (omega (arith, enough)) ∙ omega arith in
      ap (take (2 * c)) q
      ∙ ap (λ (k : ℕ). take k (paste room 0 (paired (picked h.segments (is_kind kinds 1)) (picked h.segments (is_kind kinds 2))) (2 * c))) {x = 2 * c} {y = 0 + 2 * c} (omega arith)
      ∙ take-paste room 0 (paired (picked h.segments (is_kind kinds 1)) (picked h.segments (is_kind kinds 2))) (2 * c) (omega arith) (omega arith)
      ∙ take_all (2 * c) (paired (picked h.segments (is_kind kinds 1)) (picked h.segments (is_kind kinds 2))) (omega arith)
      ∙ plan-is

-- ---- as many are free below H

module _ (h : SegmentHouse) where
  gaps-free : count_below h.segments (is_gap h) ≡ count_below (listed_count h) (is_free h)
  unfolding is_vacant
  gaps-free =
      let n = h.segments in
      let low : ℕ → Bool = λ g. is_free h g && ltb g (listed_count h) in
      count-cong (is_gap h) low n (λ g l. ap (λ (b : Bool). (b && is_free h g) && ltb g (listed_count h)) (lt-ltb g n l))
      ∙ sym (length-picked n low)
      ∙ ap length (picked-below n (listed_count h) (is_free h) (listed-few h))
      ∙ length-picked (listed_count h) (is_free h)

  pub free-high : count_below (listed_count h) (is_free h) ≡ count_below h.segments (is_high h)
  free-high = sym gaps-free ∙ sym (as_many h)

  pub none-high : 0 ≡ count_below h.segments (is_high h) → [] ≡ tidy_moves h
  unfolding tidy_moves
  none-high e =
      ap (λ (l : List ℕ). paired l (picked (listed_count h) (is_free h)))
      (sym (drop_of_length-le (picked h.segments (is_high h)) {i = 0} (omega (arith, length-picked h.segments (is_high h)))))

-- ---- by the tables

pub count_small : (f : ℕ → Bool) (n r : ℕ) → r ≡ count_below n f → r ≤ n
count_small f n r e = omega (arith, count-le f n)

number : (t : List ℕ) → (house_of t).segments ≡ segments_in t
unfolding house_of
number t = refl

module _ (t marks : List ℕ) (u : ℕ)
    (marked : (g : ℕ) → eqb (get_or marks g 0) 0 ≡ (eqb (get_or (replicate 1024 0) g 0) 0 && is_free (house_of t) g))
    (counted : u ≡ count_below (segments_in t) (λ g. eqb (get_or marks g 0) 0)) where
  free-counted : (m : ℕ) → count_below m (λ g. eqb (get_or marks g 0) 0) ≡ count_below m (is_free (house_of t))
  free-counted m = count-cong (λ g. eqb (get_or marks g 0) 0) (is_free (house_of t)) m (λ g l. free-marks (house_of t) marks marked g)

  low-is : segments_in t - u ≡ listed_count (house_of t)
  low-is =
      ap (λ (n : ℕ). n - u) (sym (number t))
      ∙ listed-rest (house_of t) u (counted ∙ ap (λ (n : ℕ). count_below n (λ g. eqb (get_or marks g 0) 0)) (sym (number t)) ∙ free-counted (house_of t).segments)

  pub plan-count : (c : ℕ) → c ≡ count_below (segments_in t - u) (λ g. eqb (get_or marks g 0) 0) → c ≡ count_below (house_of t).segments (is_high (house_of t))
  plan-count c gaps = gaps ∙ free-counted (segments_in t - u) ∙ ap (λ (m : ℕ). count_below m (is_free (house_of t))) low-is ∙ free-high (house_of t)

  module _ (kinds : List ℕ) (w : Ranged t) (sorted : (g : ℕ) → g < segments_in t → get_or kinds g 0 ≡ kind_of (get_or marks g 0) g (segments_in t - u)) where
    sorted-house : (g : ℕ) → g < (house_of t).segments → get_or kinds g 0 ≡ kind_of (get_or marks g 0) g (segments_in t - u)
    sorted-house g l = sorted g (omega (arith, number t))

    high : (g : ℕ) → g < (house_of t).segments → is_kind kinds 1 g ≡ is_high (house_of t) g
    high = high-kind (house_of t) marks kinds (segments_in t - u) marked sorted-house low-is

    gap : (g : ℕ) → g < (house_of t).segments → is_kind kinds 2 g ≡ is_gap (house_of t) g
    gap = gap-kind (house_of t) marks kinds (segments_in t - u) marked sorted-house low-is

    few : (house_of t).segments ≤ 1024
    few = omega (arith, number t, w.3)

    pub kinds-enough : count_below (segments_in t) (is_kind kinds 1) ≤ count_below (segments_in t) (is_kind kinds 2)
    kinds-enough = subst (λ (n : ℕ). count_below n (is_kind kinds 1) ≤ count_below n (is_kind kinds 2)) (number t) (enough (house_of t) few kinds high gap)

    pub kinds-few : count_below (segments_in t) (is_kind kinds 1) ≤ 1024
    kinds-few = subst (λ (n : ℕ). count_below n (is_kind kinds 1) ≤ 1024) (number t) (count-few-high (house_of t) few kinds high gap)

    module _ (c : ℕ) (gaps : c ≡ count_below (segments_in t - u) (λ g. eqb (get_or marks g 0) 0)) where
      pub kinds-counted : c ≡ count_below (segments_in t) (is_kind kinds 1)
      kinds-counted = plan-count c gaps ∙ sym (count-high (house_of t) few kinds high gap) ∙ ap (λ (n : ℕ). count_below n (is_kind kinds 1)) (number t)

      module _ (room after : List ℕ) (size : length room ≡ 2048)
          (q : after ≡ paste room 0 (paired (picked (segments_in t) (is_kind kinds 1)) (picked (segments_in t) (is_kind kinds 2))) (2 * c)) where
        pub plan-size : (length after ≡ 2048) × (c ≤ 1024)
        plan-size =
            let a = length-picked (segments_in t) (is_kind kinds 1) in
            let b = length-picked (segments_in t) (is_kind kinds 2) in
            let e = kinds-counted in
            let lm : length (paired (picked (segments_in t) (is_kind kinds 1)) (picked (segments_in t) (is_kind kinds 2))) ≡ 2 * length (picked (segments_in t) (is_kind kinds 1)) =
            length-paired (picked (segments_in t) (is_kind kinds 1)) (picked (segments_in t) (is_kind kinds 2)) (omega (arith, kinds-enough)) in
            let k = kinds-few in (
              ap length q
                  ∙ length-paste room 0 (paired (picked (segments_in t) (is_kind kinds 1)) (picked (segments_in t) (is_kind kinds 2))) (2 * c) (omega arith) (omega arith) ∙ size,
              omega arith,
            )

        pub plan-moves : take (2 * c) after ≡ tidy_moves (house_of t)
        plan-moves = plan-first (house_of t) few kinds high gap room c size (kinds-counted ∙ ap (λ (n : ℕ). count_below n (is_kind kinds 1)) (sym (number t))) after
            (q ∙ ap (λ (n : ℕ). paste room 0 (paired (picked n (is_kind kinds 1)) (picked n (is_kind kinds 2))) (2 * c)) (sym (number t)))
