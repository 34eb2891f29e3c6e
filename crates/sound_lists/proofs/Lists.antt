-- Lists marked one after the other, from the first to the last: the answer of a whole pass over the tables t. Assumes nothing.
use Prim.Native.Nat.{ℕ, ◌+◌, ◌*◌}
use mathlib.Core.Path.{◌≡◌, sym, ap, subst, subst₂, ◌∙◌}
use mathlib.Core.Logic.{inl, inr, ⊎_elim}
use mathlib.Core.List.{List}
use native.Mathlib.Omega.{arith}
use lib.Dec.{eqb}
use lib.ListN.{replicate, length-replicate}
use borrow.Author.Tests.{eq-eqb, ne_eqb}
use Rattle.combine.specs.Laws.Below.{not-both, split-bool}
use Rattle.placing.specs.Sizes.{most_segments, most_held, places, lists}
use Rattle.tables.specs.Lists.{distinctb}
use Rattle.tables.specs.Laws.Lists.{distinct_of}
use Rattle.tables.specs.Laws.Sound.{Ranged}
use Rattle.sound_lists.specs.DistinctBy.{distinct-by}
use Rattle.sound_lists.specs.Marks.{standing}
use Rattle.sound_lists.specs.Passed.{Own, Passed, Passes}
use Rattle.sound_lists.proofs.Marking.{unmarked, none-stands}
use Rattle.sound_lists.proofs.Families.{roots-distinct}

module _ (t : List ℕ) where
  pub passes_none : (i : ℕ) (m : List ℕ) → Passes t i i m m 0 0
  passes_none i m = record { few = omega arith; passes = λ n p. subst (λ (x : ℕ). Passed t i 0 m x) {x = n} {y = n + 0} (omega arith) p }

  -- one list more: c marks of n lists were set, and d of the next
  pub passes-more : (i j j' n : ℕ) (m m' m'' : List ℕ) (c d : ℕ) → j + 1 ≡ j' → Passes t i j m m' c (n * most_held) → Passes t j (j + 1) m' m'' d most_held
      → Passes t i j' m m'' (c + d) ((n + 1) * most_held)
  passes-more i j j' n m m' m'' c d e a b =
      record {
        few = omega (arith, a.few, b.few);
        passes = λ k p.
            let sum : k + c + d ≡ k + (c + d) = omega arith in
            subst₂ (λ (x y : ℕ). Passed t x 0 m'' y) e sum (b.passes (k + c) (a.passes k p));
      }

  -- ---- the whole pass
  pass-starts : Passed t 0 0 (replicate most_segments 0) 0
  pass-starts =
      inl (record {
        long = length-replicate {A = ℕ} most_segments 0;
        counted = none-stands;
        marked = λ j l o. absurd (none j l o);
        listing = λ s e. absurd (not-both e (unmarked s));
        once = λ j l j' l' o o' e. absurd (none j l o);
      })
    where
      none : (j l : ℕ) → Own t 0 0 j l → ⊥
      none j l o = ⊎_elim (λ a. omega arith) (λ b. omega (arith, b.1)) o.before

  pass-ends : Ranged t → (m : List ℕ) (n : ℕ) → Passed t lists 0 m n → eqb (standing m) n ≡ distinctb t lists
  pass-ends ok m n (inl h) =
      eq-eqb (standing m) n h.counted
      ∙ sym (distinct-by t lists (roots-distinct t ok (λ j l j' l' a b o a' b' o'.
      h.once j l j' l' (record { before = inl a; held = b; own = o }) (record { before = inl a'; held = b'; own = o' }))))
  pass-ends ok m n (inr h) =
      ne_eqb (standing m) n (λ e. omega (arith, h.fewer))
      ∙ sym (⊎_elim (λ e. absurd (h.clash (distinct_of t lists e))) (λ e. e) (split-bool (distinctb t lists)))

  -- the records, and then the openings
  pub decided : Ranged t → (m m' : List ℕ) (a b a' b' r : ℕ) → Passes t 0 places (replicate most_segments 0) m a a' → Passes t places lists m m' b b' → r ≡ standing m'
      → eqb r (a + b) ≡ distinctb t lists
  decided ok m m' a b a' b' r p q e =
      let sum : 0 + a + b ≡ a + b = omega arith in
      ap (λ (x : ℕ). eqb x (a + b)) e ∙ pass-ends ok m' (a + b) (subst (Passed t lists 0 m') sum (q.passes (0 + a) (p.passes 0 pass-starts)))
