-- The rows that hold a segment, one list after the other, and what a search through them finds. Assumes nothing.
use Prim.Native.Nat.{ℕ, zero, suc, ◌+◌, ◌≤◌, ◌<◌}
use mathlib.Core.Path.{◌≡◌, refl, sym, ap, ◌∙◌}
use mathlib.Core.Logic.{⊎_elim}
use mathlib.Core.Bool.{Bool, true, false, not, ◌&&◌, and-true}
use mathlib.Core.List.{List}
use native.Mathlib.Numerals.{add-one}
use native.Mathlib.Omega.{arith}
use native.Mathlib.Decide.{ℕ_discrete}
use mir.Val.{bool_byte}
use lib.Dec.{leb, ltb}
use lib.ListN.{length, get_or, set, take}
use lib.Seq.{get_or-set_same, get_or-set_other}
use Rattle.std.proofs.lemmas.List.{get_or-take, length-take-le}
use borrow.Author.Tests.{le-leb, leb-true, lt-ltb, le-ltb}
use Rattle.combine.specs.Below.{all_below}
use Rattle.combine.specs.Laws.Below.{all-zero, all-suc, all-at, all-make, all-bad, all-cong}
use Rattle.combine.specs.First.{first_below}
use Rattle.combine.specs.Laws.First.{first-zero, first_more, first-at}
use Rattle.combine.specs.Lists.{is_in, part}
use Rattle.combine.specs.Laws.Any.{byte-few}
use Rattle.combine.specs.Laws.Numbers.{le-or-lt}
use Rattle.combine.specs.Laws.Parts.{length_part}
use Rattle.placing.specs.Sizes.{lists}
use Rattle.segments.specs.Free.{is_free, lowest_free}
use Rattle.tables.specs.Layout.{segments_in}
use Rattle.tables.specs.Lists.{held_in}
use Rattle.tables.specs.Laws.Sound.{Ranged}
use Rattle.sound_lists.specs.ListFacts.{list-facts}
use Rattle.cells.specs.Says.{house_of}
use Rattle.free_count.specs.Rows.{start_of, row_of, row_inside, row_fits}
use Rattle.free_count.specs.Lists.{free-rows}
use Rattle.free_lowest.specs.declared.Row.{Row}
use Rattle.free_lowest.specs.Held.{HeldRows, no_row, numbers_in}
use Rattle.free_lowest.specs.Run.{run_end, run-each}

-- ---- the rows of one list more: that row stands last, and counts where it is not empty

pub rows_start : (t : List ℕ) (rows : List Row) → HeldRows t 0 0 rows
rows_start t rows = record { few = omega arith; every = λ f h. all-zero _ ∙ sym (all-zero _) }

module _ (t : List ℕ) (rows : List Row) (i n : ℕ) (r : Row) (es : r.start ≡ start_of i) (ec : r.count ≡ held_in t i) (ln : n < length rows) (h : HeldRows t i n rows) where
  module _ (f : ℕ → ℕ → Bool) (empty : (j : ℕ) → j < i + 1 → f (start_of j) 0 ≡ true) where
    row : ℕ → Bool
    row q = f (get_or (set rows n r) q no_row).start (get_or (set rows n r) q no_row).count

    list : ℕ → Bool
    list j = f (start_of j) (held_in t j)

    before : all_below n row ≡ all_below i list
    unfolding row list
    before =
        all-cong _ _ n (λ k l. ap (λ (x : Row). f x.start x.count) (get_or-set_other rows n k r no_row (λ e. omega arith)))
        ∙ h.every f (λ j l. empty j (omega arith))

    last : row n ≡ list i
    unfolding row list
    last = ap (λ (x : Row). f x.start x.count) (get_or-set_same rows n r no_row ln) ∙ (λ j. f (es j) (ec j))

    passes : r.count ≡ 0 → list i ≡ true
    unfolding list
    passes z = ap (f (start_of i)) (sym ec ∙ z) ∙ empty i (omega arith)

    empty-turn : r.count ≡ 0 → all_below (n + 0) row ≡ all_below (i + 1) list
    empty-turn z =
        let e : n + 0 ≡ n = omega arith in
        ap (λ (k : ℕ). all_below k row) e ∙ before
        ∙ sym (all-suc list i ∙ ap (λ (b : Bool). all_below i list && b) (passes z) ∙ and-true (all_below i list))

    turn : all_below (n + bool_byte (ltb 0 r.count)) row ≡ all_below (i + 1) list
    turn = go (ℕ_discrete r.count 0)
      where
        go : Dec (r.count ≡ 0) → all_below (n + bool_byte (ltb 0 r.count)) row ≡ all_below (i + 1) list
        go (yes z) = rw (le-ltb 0 r.count (omega arith)) (empty-turn z)
        go (no d) = rw (lt-ltb 0 r.count (omega arith)) (all-suc row n ∙ (λ j. before j && last j) ∙ sym (all-suc list i))

  pub rows-turn : HeldRows t (i + 1) (n + bool_byte (ltb 0 r.count)) (set rows n r)
  unfolding row list
  rows-turn = record { few = omega (arith, byte-few (ltb 0 r.count), h.few); every = turn }

-- those in use
pub rows-taken : (t : List ℕ) (i n : ℕ) (rows : List Row) → HeldRows t i n rows × (length rows ≡ i) → HeldRows t i (length (take n rows)) (take n rows)
rows-taken t i n rows (h, size) =
    let long = length-take-le n rows (omega (arith, h.few)) in
    record {
      few = omega (arith, h.few);
      every = λ f e. ap (λ (k : ℕ). all_below k (λ q. f (get_or (take n rows) q no_row).start (get_or (take n rows) q no_row).count)) long
          ∙ all-cong _ _ n (λ q m. ap (λ (x : Row). f x.start x.count) (get_or-take n rows q no_row m)) ∙ h.every f e;
    }

-- ---- what the rows of all lists say

-- no segment below s is free
abbrev pub NoneFree : List ℕ → ℕ → Type 0
NoneFree t s = (g : ℕ) → g < s → is_free (house_of t) g ≡ false

-- row q does not list g
abbrev pub lacks : List ℕ → List Row → ℕ → ℕ → Bool
lacks t rows g q = not (is_in g (numbers_in t (get_or rows q no_row)))

module _ (t : List ℕ) (w : Ranged t) (rows : List Row) (h : HeldRows t lists (length rows) rows) where
  module _ (q : ℕ) (l : q < length rows) where
    pub rows_fit : (get_or rows q no_row).start + (get_or rows q no_row).count ≤ length t
    rows_fit =
        let z = w.0 in
        let all = h.every (λ a c. leb (a + c) (length t)) (λ j lj. le-leb (start_of j + 0) (length t) (omega (arith, row_inside j lj)))
        ∙ all-make _ lists (λ j lj. le-leb (start_of j + held_in t j) (length t) (row_fits t w j lj)) in
        leb-true _ (length t) (all-at _ (length rows) all q l)

    pub rows_short : length (numbers_in t (get_or rows q no_row)) ≤ 32
    rows_short =
        let all = h.every (λ a c. leb c 32) (λ j lj. refl) ∙ all-make _ lists (λ j lj. le-leb (held_in t j) 32 (list-facts t w j lj).held) in
        omega (arith, length_part t _ _ rows_fit, leb-true (get_or rows q no_row).count 32 (all-at _ (length rows) all q l))

  pub rows-free : (g : ℕ) → is_free (house_of t) g ≡ all_below (length rows) (lacks t rows g)
  unfolding row_of part
  rows-free g = free-rows t w g ∙ sym (h.every (λ a c. not (is_in g (part t a c))) (λ j lj. refl))

  rows-hit : (g q : ℕ) → q < length rows → is_in g (numbers_in t (get_or rows q no_row)) ≡ true → is_free (house_of t) g ≡ false
  rows-hit g q l e = rows-free g ∙ all-bad _ (length rows) q l (ap not e)

  -- the run that row q lists
  pub none-run : (s q n : ℕ) → q < length rows → NoneFree t s → n ≡ run_end (numbers_in t (get_or rows q no_row)) s → NoneFree t n
  none-run s q n l m e g h = ⊎_elim (λ a. rows-hit g q l (run-each _ s g a (rw e at h))) (m g) (le-or-lt s g)

-- ---- the lowest free segment

first-none : (f : ℕ → Bool) (n : ℕ) → ((g : ℕ) → g < n → f g ≡ false) → first_below n f ≡ n
first-none f zero h = first-zero f
first-none f (suc n) h =
    rw add-one at (first_more f n (first-none f n (λ g l. h g (omega arith))) (h n (omega arith)))

module _ (t : List ℕ) (n s : ℕ) (e : n ≡ segments_in t) (m : NoneFree t s) where
  pub lowest-none : n ≤ s → n ≡ lowest_free (house_of t)
  unfolding lowest_free house_of
  lowest-none l = e ∙ sym (first-none (is_free (house_of t)) (segments_in t) (λ g h. m g (omega arith)))

  pub lowest-here : s < n → is_free (house_of t) s ≡ true → s ≡ lowest_free (house_of t)
  unfolding lowest_free house_of
  lowest-here l f = sym (first-at (is_free (house_of t)) (segments_in t) s (first-none (is_free (house_of t)) s m) f (omega arith))
