-- A pass over the lists of `Ranged` tables t: one place more, and one list more. Assumes nothing.
use Prim.Native.Nat.{ℕ, zero, suc, ◌+◌, ◌≤◌, ◌<◌}
use mathlib.Core.Path.{◌≡◌, refl, sym, ap, subst, subst₃, ◌∙◌}
use mathlib.Core.Logic.{◌⊎◌, inl, inr, ⊎_elim}
use mathlib.Core.Bool.{Bool, true, false, not, cond}
use mathlib.Core.List.{List}
use native.Mathlib.Nat.{eq-or-lt_of_le}
use native.Mathlib.Numerals.{add-one}
use native.Mathlib.Omega.{arith}
use lib.ListN.{set, length-set}
use borrow.Author.Tests.{not-true, not-false}
use Rattle.combine.specs.Below.{count_below}
use Rattle.combine.specs.Laws.Below.{not-both, split-bool, count-le}
use Rattle.combine.specs.Laws.Numbers.{eq-or-ne}
use Rattle.placing.specs.Sizes.{most_segments, most_held, lists}
use Rattle.tables.specs.Lists.{held_in, listed}
use Rattle.tables.specs.Laws.Sound.{Ranged}
use Rattle.sound_lists.specs.ListFacts.{list-facts}
use Rattle.sound_lists.specs.Marks.{is_marked, mark_those, Marked}
use Rattle.sound_lists.specs.Shared.{sharedb}
use Rattle.sound_lists.specs.Passed.{Own, Once, Twice, Passed, Passes}
use Rattle.sound_lists.proofs.Marking.{marked-here, marked_other, marked-still, one_more, none_more, at-most-one-more, none-marked}
use Rattle.sound_lists.proofs.Families.{own-clash}

module _ (t : List ℕ) where
  -- the same own places, said in another way
  once-as : (i k i' k' : ℕ) → ((j l : ℕ) → Own t i k j l → Own t i' k' j l) → ((j l : ℕ) → Own t i' k' j l → Own t i k j l) → (m : List ℕ) (n : ℕ) → Once t i k m n → Once t i' k' m n
  once-as i k i' k' f g m n h =
      record {
        long = h.long;
        counted = h.counted;
        marked = λ j l o. h.marked j l (g j l o);
        listing = λ s e. let w = h.listing s e in (w.0, w.1, f w.0 w.1 w.2, w.3);
        once = λ j l j' l' o o'. h.once j l j' l' (g j l o) (g j' l' o');
      }

  -- ---- one place more
  own-more : (i k j l : ℕ) → Own t i k j l → Own t i (k + 1) j l
  own-more i k j l o =
      record { before = ⊎_elim (λ a. inl a) (λ b. inr (b.0, omega (arith, b.1))) o.before; held = o.held; own = o.own }

  own-less : (i k j l : ℕ) → Own t i (k + 1) j l → Own t i k j l ⊎ ((j ≡ i) × (l ≡ k))
  own-less i k j l o = ⊎_elim (λ a. inl (keep (inl a))) (λ b. last b.0 (eq-or-lt_of_le (at_most b.1))) o.before
    where
      keep : (j < i) ⊎ ((j ≡ i) × (l < k)) → Own t i k j l
      keep b = record { before = b; held = o.held; own = o.own }

      at_most : l < k + 1 → l ≤ k
      at_most a = omega arith

      last : j ≡ i → (l ≡ k) ⊎ (l < k) → Own t i k j l ⊎ ((j ≡ i) × (l ≡ k))
      last e (inl d) = inr (e, d)
      last e (inr a) = inl (keep (inr (e, a)))

  module _ (ok : Ranged t) (i : ℕ) (li : i < lists) where
    module _ (k : ℕ) (lk : k < held_in t i) (m : List ℕ) (n : ℕ) where
      -- the number at place k
      s : ℕ
      s = listed t i k

      low : s < most_segments
      unfolding s
      low = omega (arith, (list-facts t ok i li).number k lk, ok.3)

      -- a number that is not marked yet
      fresh : sharedb t i k ≡ false → Once t i k m n → is_marked m s ≡ false → Once t i (k + 1) (set m s 1) (n + 1)
      unfolding s
      fresh own h new =
          record {
            long = length-set m s 1 ∙ h.long;
            counted = one_more m s h.long low new ∙ ap (λ (x : ℕ). x + 1) h.counted;
            marked = λ j l o. ⊎_elim
                (λ q. marked-still m s h.long low (listed t j l) (h.marked j l q))
                (λ e. (λ q. is_marked (set m s 1) (listed t (e.0 q) (e.1 q))) ∙ marked-here m s h.long low)
                (own-less i k j l o);
            listing = λ g e. ⊎_elim
                (λ q. (i, k, here, sym q))
                (λ d. let w = h.listing g (sym (marked_other m s h.long low g d) ∙ e) in (w.0, w.1, own-more i k w.0 w.1 w.2, w.3))
                (eq-or-ne g s);
            once = λ j l j' l' o o' e. ⊎_elim
                (λ q. ⊎_elim (λ q'. h.once j l j' l' q q' e) (λ b. absurd (differs j l q (e ∙ number j' l' b))) (own-less i k j' l' o'))
                (λ a. ⊎_elim (λ q'. absurd (differs j' l' q' (sym e ∙ number j l a))) (λ b. (a.0 ∙ sym b.0, a.1 ∙ sym b.1)) (own-less i k j' l' o'))
                (own-less i k j l o);
          }
        where
          here : Own t i (k + 1) i k
          here = record { before = inr (refl, omega arith); held = lk; own = own }

          number : (j l : ℕ) → (j ≡ i) × (l ≡ k) → listed t j l ≡ s
          number j l e = λ q. listed t (e.0 q) (e.1 q)

          differs : (j l : ℕ) → Own t i k j l → listed t j l ≡ s → ⊥
          differs j l o e = not-both (sym (ap (is_marked m) e) ∙ h.marked j l o) new

      -- a number that is marked already
      again : sharedb t i k ≡ false → Once t i k m n → is_marked m s ≡ true → Twice t (set m s 1) (n + 1)
      unfolding s
      again own h old =
          let w = h.listing s old in
          let o = w.2 in
          record {
            long = length-set m s 1 ∙ h.long;
            fewer = omega (arith, none_more m s h.long low old, h.counted);
            clash = own-clash t ok i k w.0 w.1 li lk o.held o.before own w.3;
          }

      still : Twice t m n → Twice t (set m s 1) (n + 1)
      still h =
          record { long = length-set m s 1 ∙ h.long; fewer = omega (arith, at-most-one-more m s h.long low, h.fewer); clash = h.clash }

      pub own-place : sharedb t i k ≡ false → Passed t i k m n → Passed t i (k + 1) (set m (listed t i k) 1) (n + 1)
      unfolding s
      own-place own (inl h) = ⊎_elim (λ e. inr (again own h e)) (λ e. inl (fresh own h e)) (split-bool (is_marked m s))
      own-place own (inr h) = inr (still h)

      pub shared-place : sharedb t i k ≡ true → Passed t i k m n → Passed t i (k + 1) m n
      shared-place e (inr h) = inr h
      shared-place e (inl h) =
          inl (once-as i k i (k + 1) (own-more i k) (λ j l o. ⊎_elim (λ q. q) (λ a. absurd (not-both ((λ q. sharedb t (a.0 q) (a.1 q)) ∙ e) o.own)) (own-less i k j l o)) m n h)

    -- ---- the whole list i is all before list i + 1
    list_done : (m : List ℕ) (n : ℕ) → Passed t i (held_in t i) m n → Passed t (i + 1) 0 m n
    list_done m n (inr h) = inr h
    list_done m n (inl h) = inl (once-as i (held_in t i) (i + 1) 0 on back m n h)
      where
        on : (j l : ℕ) → Own t i (held_in t i) j l → Own t (i + 1) 0 j l
        on j l o = record { before = inl (⊎_elim (λ a. omega arith) (λ b. omega (arith, b.0)) o.before); held = o.held; own = o.own }

        back : (j l : ℕ) → Own t (i + 1) 0 j l → Own t i (held_in t i) j l
        back j l o = record { before = ⊎_elim (λ a. which (eq-or-lt_of_le (at_most a))) (λ b. absurd (none b.1)) o.before; held = o.held; own = o.own }
          where
            at_most : j < i + 1 → j ≤ i
            at_most a = omega arith

            none : l < 0 → ⊥
            none a = omega arith

            which : (j ≡ i) ⊎ (j < i) → (j < i) ⊎ ((j ≡ i) × (l < held_in t i))
            which (inl e) = inr (e, subst (λ (x : ℕ). l < held_in t x) e o.held)
            which (inr a) = inl a

    -- the own numbers of list i, marked one after the other
    module _ (test : ℕ → Bool) (f : ℕ → ℕ) (m : List ℕ) (n : ℕ) (en : n ≡ held_in t i) (ef : (k : ℕ) → k < n → f k ≡ listed t i k) (et : (k : ℕ) → k < n → test k ≡ not (sharedb t i k)) where
      turn : (k c : ℕ) (now : List ℕ) → k < n → (b : Bool) → test k ≡ b → Passed t i k now (c + count_below k test)
          → Passed t i (suc k) (cond b (set now (f k) 1) now) (c + cond b (count_below k test + 1) (count_below k test))
      turn k c now l true e h =
          let own : sharedb t i k ≡ false = not-true (sharedb t i k) (sym (et k l) ∙ e) in
          let sum : c + count_below k test + 1 ≡ c + (count_below k test + 1) = omega arith in
          subst₃ (λ (x y z : ℕ). Passed t i x (set now y 1) z) (add-one k) (sym (ef k l)) sum (own-place k (omega arith) now (c + count_below k test) own h)
      turn k c now l false e h =
          let all : sharedb t i k ≡ true = not-false (sharedb t i k) (sym (et k l) ∙ e) in
          subst (λ (x : ℕ). Passed t i x now (c + count_below k test)) (add-one k) (shared-place k (omega arith) now (c + count_below k test) all h)

      so_far : (c k : ℕ) → k ≤ n → Passed t i 0 m c → Passed t i k (mark_those test f m k) (c + count_below k test)
      unfolding mark_those count_below
      so_far c zero l h = subst (λ (x : ℕ). Passed t i 0 m x) {x = c} {y = c + 0} (omega arith) h
      so_far c (suc k) l h = turn k c (mark_those test f m k) (omega arith) (test k) refl (so_far c k (omega arith) h)

      pub list-marked : (m' : List ℕ) (c : ℕ) → Marked test f m n m' c → Passes t i (i + 1) m m' c most_held
      list-marked m' c h =
          record {
            few = omega (arith, h.set, count-le test n, (list-facts t ok i li).held);
            passes = λ d p. list_done m' (d + c) (subst₃ (Passed t i) en (sym h.after) (ap (λ (x : ℕ). d + x) (sym h.set)) (so_far d n (omega arith) p));
          }

    -- nothing is marked of a list with no own place
    pub none-own : ((k : ℕ) → k < held_in t i → sharedb t i k ≡ true) → (m : List ℕ) → Passes t i (i + 1) m m 0 most_held
    none-own all m =
        list-marked (λ k. false) (listed t i) m (held_in t i) refl (λ k l. refl) (λ k l. ap not (sym (all k l))) m 0 (none-marked (listed t i) m (held_in t i))
