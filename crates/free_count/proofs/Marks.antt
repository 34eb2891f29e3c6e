-- What is not marked, after the marks of a row (those of this crate, and those of `sound_lists`) and of the lists. Assumes nothing.
use Prim.Native.Nat.{ℕ, zero, suc, ◌+◌, ◌≤◌, ◌<◌}
use mathlib.Core.Path.{◌≡◌, refl, sym, ap, subst, ◌∙◌}
use mathlib.Core.Bool.{Bool, true, not, ◌&&◌, and-true, and-false, and_assoc}
use mathlib.Core.List.{List}
use native.Mathlib.Numerals.{add-one}
use native.Mathlib.Omega.{arith}
use native.Mathlib.Decide.{ℕ_discrete}
use lib.Dec.{eqb}
use lib.ListN.{length, get_or, set, replicate, length-set}
use lib.Seq.{get_or-set_same, get_or-set_other}
use borrow.Author.Tests.{eq-eqb, ne_eqb}
use Rattle.combine.specs.Laws.Replaced.{replicate-at}
use Rattle.combine.specs.Below.{all_below, count_below}
use Rattle.combine.specs.Laws.Below.{all-zero, all-suc}
use Rattle.combine.specs.Lists.{is_in}
use Rattle.combine.specs.Laws.Any.{not-in}
use Rattle.placing.specs.Sizes.{most_segments, lists}
use Rattle.segments.specs.Free.{is_free, free_count}
use Rattle.tables.specs.Layout.{segments_in}
use Rattle.tables.specs.Lists.{held_in}
use Rattle.tables.specs.Laws.Sound.{Ranged}
use Rattle.sound_lists.specs.ListFacts.{list-facts}
use Rattle.sound_lists.specs.Marks.{mark_those}
use Rattle.cells.specs.Says.{house_of}
use Rattle.combine.specs.Laws.Below.{count-cong}
use Rattle.free_count.specs.Rows.{row_of, length-row, row_at}

-- ---- what is not marked of the numbers g: what was not marked at first, and passes the first k tests f g

abbrev pub Unmarked : (ℕ → ℕ → Bool) → List ℕ → ℕ → List ℕ → Type 0
Unmarked f first k marks = (g : ℕ) → eqb (get_or marks g 0) 0 ≡ (eqb (get_or first g 0) 0 && all_below k (f g))

module _ (f : ℕ → ℕ → Bool) (first : List ℕ) where
  pub marks-start : Unmarked f first 0 first
  marks-start g = sym (ap (λ (b : Bool). eqb (get_or first g 0) 0 && b) (all-zero (f g)) ∙ and-true (eqb (get_or first g 0) 0))

  pub marks-turn : (k : ℕ) (marks after : List ℕ) → Unmarked f first k marks → ((g : ℕ) → eqb (get_or after g 0) 0 ≡ (eqb (get_or marks g 0) 0 && f g k)) → Unmarked f first (k + 1) after
  marks-turn k marks after h m g =
      m g ∙ ap (λ (b : Bool). b && f g k) (h g) ∙ and_assoc (eqb (get_or first g 0) 0) (all_below k (f g)) (f g k)
      ∙ sym (ap (λ (b : Bool). eqb (get_or first g 0) 0 && b) (all-suc (f g) k))

  pub marks-done : (k n : ℕ) (marks : List ℕ) (all : ℕ → Bool) → k ≡ n → ((g : ℕ) → all g ≡ all_below n (f g)) → Unmarked f first k marks → (g : ℕ) → eqb (get_or marks g 0) 0 ≡ (eqb (get_or first g 0) 0 && all g)
  marks-done k n marks all e d h g =
      h g ∙ ap (λ (b : Bool). eqb (get_or first g 0) 0 && b) (ap (λ (m : ℕ). all_below m (f g)) e ∙ sym (d g))

-- ---- a row: g is not its jth number

abbrev pub not_at : List ℕ → ℕ → ℕ → Bool
not_at row g j = not (eqb g (get_or row j 0))

pub mark-one : (marks : List ℕ) (x g : ℕ) → x < length marks → eqb (get_or (set marks x 1) g 0) 0 ≡ (eqb (get_or marks g 0) 0 && not (eqb g x))
mark-one marks x g l = go (ℕ_discrete g x)
  where
    go : Dec (g ≡ x) → eqb (get_or (set marks x 1) g 0) 0 ≡ (eqb (get_or marks g 0) 0 && not (eqb g x))
    go (yes e) = rw (eq-eqb g x e, e, get_or-set_same marks x 1 0 l) (sym (and-false (eqb (get_or marks x 0) 0)))
    go (no d) = rw (ne_eqb g x d, get_or-set_other marks x g 1 0 d) (sym (and-true (eqb (get_or marks g 0) 0)))

module _ (row marks : List ℕ) where
  -- the marks after those of the first n numbers, as `sound_lists` sets them
  abbrev after_row : ℕ → List ℕ
  after_row n = mark_those (λ k. true) (λ k. get_or row k 0) marks n

  row-size : (n : ℕ) → length (after_row n) ≡ length marks
  unfolding mark_those
  row-size zero = refl
  row-size (suc n) = length-set (after_row n) (get_or row n 0) 1 ∙ row-size n

  module _ (low : (k : ℕ) → k < length row → get_or row k 0 < length marks) where
    row-passed : (n : ℕ) → n ≤ length row → Unmarked (not_at row) marks n (after_row n)
    unfolding mark_those
    row-passed zero l = marks-start (not_at row) marks
    row-passed (suc n) l =
        let inside : get_or row n 0 < length (after_row n) = omega (arith, low n (omega arith), row-size n) in
        subst (λ (k : ℕ). Unmarked (not_at row) marks k (set (after_row n) (get_or row n 0) 1)) (add-one n)
        (marks-turn (not_at row) marks n (after_row n) (set (after_row n) (get_or row n 0) 1) (row-passed n (omega arith)) (λ g. mark-one (after_row n) (get_or row n 0) g inside))

    row-marked : (g : ℕ) → eqb (get_or (after_row (length row)) g 0) 0 ≡ (eqb (get_or marks g 0) 0 && not (is_in g row))
    row-marked = marks-done (not_at row) marks (length row) (length row) (after_row (length row)) _ refl (λ g. not-in g row) (row-passed (length row) (omega arith))

-- ---- the lists: g is not in list i

abbrev pub not_in : List ℕ → ℕ → ℕ → Bool
not_in t g i = not (is_in g (row_of t i))

module _ (t : List ℕ) (w : Ranged t) (i : ℕ) (l : i < lists) where
  row_low : (k : ℕ) → k < length (row_of t i) → get_or (row_of t i) k 0 < most_segments
  row_low k h =
      let m : k < held_in t i = let e = length-row t w i l in omega arith in
      omega (arith, row_at t w i l k m, (list-facts t w i l).number k m, w.3)

  pub lent-low : (row : List ℕ) → row ≡ row_of t i → (k : ℕ) → k < length row → get_or row k 0 < most_segments
  lent-low row e = subst (λ (x : List ℕ). (k : ℕ) → k < length x → get_or x k 0 < most_segments) (sym e) row_low

  -- one list more, whose row is marked as `sound_lists` does
  pub lists-turn : (first marks row after : List ℕ) → row ≡ row_of t i → length marks ≡ most_segments
      → after ≡ mark_those (λ k. true) (λ k. get_or row k 0) marks (length row) → Unmarked (not_in t) first i marks → (length after ≡ most_segments) × Unmarked (not_in t) first (i + 1) after
  lists-turn first marks row after e size m u =
      let low : (k : ℕ) → k < length row → get_or row k 0 < length marks = λ k h. omega (arith, size, lent-low row e k h) in (
        ap length m ∙ row-size row marks (length row) ∙ size,
        marks-turn (not_in t) first i marks after u (λ g. ap (λ (x : List ℕ). eqb (get_or x g 0) 0) m ∙ row-marked row marks low g ∙ ap (λ (x : List ℕ). eqb (get_or marks g 0) 0 && not (is_in g x)) e),
      )

-- ---- the marks were all zero at first

pub free-counted : (t marks : List ℕ) (r : ℕ) → r ≡ count_below (segments_in t) (λ g. eqb (get_or marks g 0) 0) → ((g : ℕ) → eqb (get_or marks g 0) 0 ≡ (eqb (get_or (replicate 1024 0) g 0) 0 && is_free (house_of t) g)) → r ≡ free_count (house_of t)
unfolding free_count house_of
free-counted t marks r e h =
    e ∙ count-cong _ (is_free (house_of t)) (segments_in t) (λ g l. h g ∙ ap (λ (n : ℕ). eqb n 0 && is_free (house_of t) g) (replicate-at {A = ℕ} 1024 g 0))
