-- One more mark, and how many stand then. Assumes nothing.
use Prim.Native.Nat.{ℕ, zero, suc, ◌+◌, ◌*◌, ◌≤◌, ◌<◌}
use mathlib.Core.Path.{◌≡◌, refl, sym, ap, ◌∙◌}
use mathlib.Core.Logic.{◌≢◌, ⊎_elim}
use mathlib.Core.Bool.{Bool, true, false, not, cond}
use mathlib.Core.List.{List}
use native.Mathlib.Numerals.{add-one}
use native.Mathlib.Omega.{arith}
use lib.Dec.{eqb}
use lib.ListN.{length, set, replicate}
use lib.Seq.{get_or-set_same, get_or-set_other}
use Rattle.combine.specs.Below.{count_below}
use Rattle.combine.specs.Laws.Below.{count-cong, count-le, split-bool}
use Rattle.combine.specs.Laws.Counts.{count-start, count-join, count_none, count-one-more}
use Rattle.combine.specs.Laws.Numbers.{eq-or-ne}
use Rattle.combine.specs.Laws.Replaced.{replicate-at}
use Rattle.placing.specs.Sizes.{most_segments}
use Rattle.sound_lists.specs.Marks.{is_marked, part_length, standing, mark_those, Marked}

-- segment s gets its mark
module _ (m : List ℕ) (s : ℕ) (long : length m ≡ most_segments) (low : s < most_segments) where
  pub marked-here : is_marked (set m s 1) s ≡ true
  unfolding is_marked
  marked-here = ap (λ (x : ℕ). not (eqb x 0)) (get_or-set_same m s 1 0 (omega arith))

  pub marked_other : (g : ℕ) → g ≢ s → is_marked (set m s 1) g ≡ is_marked m g
  unfolding is_marked
  marked_other g d = ap (λ (x : ℕ). not (eqb x 0)) (get_or-set_other m s g 1 0 d)

  -- what was marked stays so
  pub marked-still : (g : ℕ) → is_marked m g ≡ true → is_marked (set m s 1) g ≡ true
  marked-still g h = ⊎_elim (λ e. ap (is_marked (set m s 1)) e ∙ marked-here) (λ d. marked_other g d ∙ h) (eq-or-ne g s)

  pub one_more : is_marked m s ≡ false → standing (set m s 1) ≡ standing m + 1
  unfolding standing
  one_more h = count-one-more most_segments s (is_marked m) (is_marked (set m s 1)) low h marked-here marked_other

  pub none_more : is_marked m s ≡ true → standing (set m s 1) ≡ standing m
  unfolding standing
  none_more h = count-cong (is_marked (set m s 1)) (is_marked m) most_segments (λ g _. same g)
    where
      same : (g : ℕ) → is_marked (set m s 1) g ≡ is_marked m g
      same g = ⊎_elim (λ e. ap (is_marked (set m s 1)) e ∙ marked-here ∙ sym h ∙ ap (is_marked m) (sym e)) (marked_other g) (eq-or-ne g s)

  pub at-most-one-more : standing (set m s 1) ≤ standing m + 1
  at-most-one-more = ⊎_elim (λ h. omega (arith, none_more h)) (λ h. omega (arith, one_more h)) (split-bool (is_marked m s))

-- at first nothing is marked
pub unmarked : (s : ℕ) → is_marked (replicate most_segments 0) s ≡ false
unfolding is_marked
unmarked s = ap (λ (x : ℕ). not (eqb x 0)) (replicate-at most_segments s 0)

pub none-stands : standing (replicate most_segments 0) ≡ 0
unfolding standing
none-stands = count_none most_segments (is_marked (replicate most_segments 0)) (λ s _. unmarked s)

-- one part more is counted
pub part-more : (m : List ℕ) (part c r : ℕ) → c ≡ count_below (part_length * part) (is_marked m) → r ≡ count_below part_length (λ k. is_marked m (part_length * part + k))
    → c + r ≡ count_below (part_length * (part + 1)) (is_marked m)
part-more m part c r e d =
    let n : part_length * (part + 1) ≡ part_length * part + part_length = omega arith in
    (λ i. e i + d i) ∙ sym (ap (λ (k : ℕ). count_below k (is_marked m)) n ∙ count-join (part_length * part) part_length (is_marked m))

-- ---- marks one after the other
module _ (test : ℕ → Bool) (f : ℕ → ℕ) (m : List ℕ) where
  pub marked-none : Marked test f m 0 m 0
  unfolding mark_those
  marked-none = record { after = refl; set = count-start test }

  -- segment s is the next, and is marked if b
  pub marked_more : (n : ℕ) (now after : List ℕ) (c d s : ℕ) (b : Bool) → Marked test f m n now c → Marked (λ k. b) (λ k. s) now 1 after d → b ≡ test n → s ≡ f n
      → Marked test f m (n + 1) after (c + d)
  unfolding mark_those count_below
  marked_more n now after c d s b h g eb es =
      let e : after ≡ cond (test n) (set (mark_those test f m n) (f n) 1) (mark_those test f m n) =
      g.after ∙ (λ i. cond (eb i) (set (h.after i) (es i) 1) (h.after i)) in
      let sum : c + d ≡ cond (test n) (count_below n test + 1) (count_below n test) = counted (test n) (g.set ∙ ap (λ (x : Bool). cond x 1 0) eb) in
      record { after = rw add-one e; set = rw add-one sum }
    where
      counted : (x : Bool) → d ≡ cond x 1 0 → c + d ≡ cond x (count_below n test + 1) (count_below n test)
      counted true e = omega (arith, h.set)
      counted false e = omega (arith, h.set)

-- all of them are marked
module _ (f : ℕ → ℕ) (m : List ℕ) where
  pub all_none : m ≡ mark_those (λ k. true) f m 0
  unfolding mark_those
  all_none = refl

  pub all_more : (n : ℕ) (now : List ℕ) → now ≡ mark_those (λ k. true) f m n → set now (f n) 1 ≡ mark_those (λ k. true) f m (n + 1)
  unfolding mark_those
  all_more n now e = ap (λ (x : List ℕ). set x (f n) 1) e ∙ rw add-one

-- by another name of each
pub all_same : (f g : ℕ → ℕ) (m : List ℕ) (n : ℕ) → ((k : ℕ) → k < n → f k ≡ g k) → mark_those (λ k. true) f m n ≡ mark_those (λ k. true) g m n
unfolding mark_those
all_same f g m zero e = refl
all_same f g m (suc n) e = λ i. set (all_same f g m n (λ k l. e k (omega arith)) i) (e n (omega arith) i) 1

-- none is
pub none-marked : (f : ℕ → ℕ) (m : List ℕ) (n : ℕ) → Marked (λ k. false) f m n m 0
unfolding mark_those
none-marked f m n = record { after = sym (same n); set = sym (count_none n (λ k. false) (λ k l. refl)) }
  where
    same : (k : ℕ) → mark_those (λ k. false) f m k ≡ m
    same zero = refl
    same (suc k) = same k

-- one segment
pub few-one : (test : ℕ → Bool) (f : ℕ → ℕ) (m m' : List ℕ) (c : ℕ) → Marked test f m 1 m' c → c ≤ 1
few-one test f m m' c h = omega (arith, h.set, count-le test 1)

module _ (m : List ℕ) (s : ℕ) (shared : Bool) where
  pub one-shared : shared ≡ true → Marked (λ k. not shared) (λ k. s) m 1 m 0
  unfolding mark_those count_below
  one-shared e = record { after = rw e; set = rw e }

  pub one-own : shared ≡ false → Marked (λ k. not shared) (λ k. s) m 1 (set m s 1) 1
  unfolding mark_those count_below
  one-own e = record { after = rw e; set = rw e }
