-- Openings of one record, and names of records: what stays when an entry or a place of the list changes. Assumes nothing.
use Rattle.std.specs.Prelude.{ℕ, zero, suc, ◌<◌, ◌≡◌, refl, ◌≢◌, Bool, not, List, [], ◌∷◌, T, eqb, length, get_or, set}
use Rattle.std.proofs.Math.Decide.{ℕ_discrete}
use Rattle.std.proofs.Common.{sym, ◌∙◌, subst, eqb→eq, T_not, get_or-set_same, get_or-set_other}
use Rattle.std.proofs.Math.Option.{Option, none, some}
use Rattle.combine.specs.Lists.{any}
use Rattle.rules.specs.Headings.{Handle, passes}
use Rattle.rules.specs.House.{opens_place, works_place}
use Rattle.segments.specs.Laws.Sound.{Single, Alone}
use Rattle.combine.specs.Laws.Tests.{and_first, and_second}
use Rattle.combine.specs.Laws.Sums.{any_at}
use Rattle.combine.specs.Laws.Replaced.{either}

abbrev opens : ℕ → Option Handle → Bool
opens p y = passes (opens_place p) y

abbrev works : ℕ → Option Handle → Bool
works p y = passes (works_place p) y

works-opens : (p : ℕ) (y : Option Handle) → T (works p y) → T (opens p y)
works-opens p none t = t
works-opens p (some h) t = and_second h.permit (opens_place p h) t

unseen : {A B : Type 0} (f : A → B) (l : List A) (i a : ℕ) (y d : A) → f y ≡ f (get_or l i d) → f (get_or (set l i y) a d) ≡ f (get_or l a d)
unseen f [] i a y d e = refl
unseen f (x ∷ xs) zero zero y d e = e
unseen f (x ∷ xs) zero (suc a) y d e = refl
unseen f (x ∷ xs) (suc i) zero y d e = refl
unseen f (x ∷ xs) (suc i) (suc a) y d e = unseen f xs i a y d e

-- ---- "and has no other opening": entry i changes

module _ (l : List (Option Handle)) (i : ℕ) (alone : Alone l) where
  -- the entry keeps its record and its permit
  pub alone-like : (y : Option Handle) → ((p : ℕ) → works p y ≡ works p (get_or l i none)) → ((p : ℕ) → opens p y ≡ opens p (get_or l i none)) → Alone (set l i y)
  alone-like y w o = λ p b c d s t. alone p b c d (subst T (unseen (works p) l i b y none (w p)) s) (subst T (unseen (opens p) l i c y none (o p)) t)

  pub alone-end : Alone (set l i none)
  alone-end = λ p b c d s t.
      either (λ z. T (works p z) → ⊥) l i b none none (λ x. x)
      (λ s'. either (λ z. T (opens p z) → ⊥) l i c none none (λ x. x) (λ t'. alone p b c d s' t') t) s

  -- a new opening: where it works nobody else opens, and where it opens nobody else works
  alone-new : (y : Option Handle) → ((p j : ℕ) → T (works p y) → T (opens p (get_or l j none)) → ⊥)
      → ((p j : ℕ) → T (opens p y) → T (works p (get_or l j none)) → ⊥) → Alone (set l i y)
  alone-new y w o = λ p b c d s t. go p b c d (ℕ_discrete b i) (ℕ_discrete c i) s t
    where
      go : (p b c : ℕ) → b ≢ c → Dec (b ≡ i) → Dec (c ≡ i) → T (works p (get_or (set l i y) b none)) → T (opens p (get_or (set l i y) c none)) → ⊥
      go p b c d (yes e) (yes e') s t = d (e ∙ sym e')
      go p b c d (yes e) (no n') s t =
          let t' : T (opens p (get_or l c none)) = rw (get_or-set_other l i c y none n') at t in
          either (λ z. T (works p z) → ⊥) l i b y none (λ q. w p c q t') (λ q. alone p b c d q t') s
      go p b c d (no n) (yes e') s t =
          let s' : T (works p (get_or l b none)) = rw (get_or-set_other l i b y none n) at s in
          either (λ z. T (opens p z) → ⊥) l i c y none (λ q. o p b q s') (λ q. alone p b c d s' q) t
      go p b c d (no n) (no n') s t = alone p b c d (rw (get_or-set_other l i b y none n) at s) (rw (get_or-set_other l i c y none n') at t)

  module _ (h : Handle) where
    pub alone-none : h.place ≡ none → Alone (set l i (some h))
    alone-none e = alone-new (some h) (λ q j s t. rw e at (and_second h.permit (opens_place q h) s)) (λ q j s t. rw e at s)

    module _ (p : ℕ) (e : h.place ≡ some p) where
      at_place : (q : ℕ) → T (opens_place q h) → q ≡ p
      at_place q s = eqb→eq q p (rw e at s)

      -- "for work, if any opening of that record exists; for read, if a work opening of it exists"
      pub alone-work : T (not (any (opens p) l)) → Alone (set l i (some h))
      alone-work b = alone-new (some h)
          (λ q j s t. none-opens q j (at_place q (and_second h.permit (opens_place q h) s)) t)
          (λ q j s t. none-opens q j (at_place q s) (works-opens q (get_or l j none) t))
        where
          none-opens : (q j : ℕ) → q ≡ p → T (opens q (get_or l j none)) → ⊥
          none-opens q j w t = T_not (any (opens p) l) b (any_at (opens p) l j none tt (subst (λ (z : ℕ). T (opens z (get_or l j none))) w t))

      pub alone-read : T (not h.permit) → T (not (any (works p) l)) → Alone (set l i (some h))
      alone-read r b = alone-new (some h)
          (λ q j s t. T_not h.permit r (and_first h.permit (opens_place q h) s))
          (λ q j s t. T_not (any (works p) l) b (any_at (works p) l j none tt (subst (λ (z : ℕ). T (works z (get_or l j none))) (at_place q s) t)))

-- ---- at most one place passes

pub single-set : {A : Type 0} (f : Option A → Bool) (l : List (Option A)) (p : ℕ) (y : Option A) → p < length l → Single f l
    → (T (f y) → (j : ℕ) → j ≢ p → T (f (get_or l j none)) → ⊥) → Single f (set l p y)
single-set f l p y h s n = λ a b d t u. go a b d (ℕ_discrete a p) (ℕ_discrete b p) t u
  where
    here : (a : ℕ) → a ≡ p → T (f (get_or (set l p y) a none)) → T (f y)
    here a e t = rw (get_or-set_same l p y none h) at (rw e at t)

    there : (a : ℕ) → a ≢ p → T (f (get_or (set l p y) a none)) → T (f (get_or l a none))
    there a e t = rw (get_or-set_other l p a y none e) at t

    go : (a b : ℕ) → a ≢ b → Dec (a ≡ p) → Dec (b ≡ p) → T (f (get_or (set l p y) a none)) → T (f (get_or (set l p y) b none)) → ⊥
    go a b d (yes e) (yes e') t u = d (e ∙ sym e')
    go a b d (yes e) (no n') t u = n (here a e t) b n' (there b n' u)
    go a b d (no n') (yes e) t u = n (here b e u) a n' (there a n' t)
    go a b d (no k) (no k') t u = s a b d (there a k t) (there b k' u)
