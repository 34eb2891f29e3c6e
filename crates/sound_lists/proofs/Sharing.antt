-- What lists share: a place that is not own has its record's number, which is the record's own. Assumes nothing.
use Prim.Native.Nat.{ℕ, ◌+◌, ◌-◌, ◌≤◌, ◌<◌}
use mathlib.Core.Path.{◌≡◌, refl, sym, ap, subst, ◌∙◌}
use mathlib.Core.Logic.{◌≢◌}
use mathlib.Core.Bool.{Bool, true, false, not, ◌&&◌, cond}
use mathlib.Core.List.{List}
use native.Mathlib.Omega.{arith}
use lib.Dec.{eqb, leb, ltb}
use borrow.Author.Tests.{leb-true, ltb-true, eqb-true, eqb-false, le-leb, lt-leb, lt-ltb, le-ltb, eq-eqb, ne_eqb, not-true}
use Rattle.combine.specs.Laws.Below.{both, left-of, right_of, bool-ext}
use Rattle.placing.specs.Sizes.{places}
use Rattle.tables.specs.Lists.{held_in, listed, stretch_in, family_of}
use Rattle.sound_lists.specs.Shared.{has_at, sharedb}

-- ---- a row of n numbers f, from stretch `first` on
pub record Has (f : ℕ → ℕ) (n first w s : ℕ) : Type 0 where
  pub place : ℕ
  pub held : place < n
  pub stretch : first + place ≡ w
  pub number : f place ≡ s

module _ (f : ℕ → ℕ) (n first w s : ℕ) where
  pub has_of : has_at f n first w s ≡ true → Has f n first w s
  unfolding has_at
  has_of e =
      let from : leb first w ≡ true = left-of (leb first w) _ e in
      let rest : (ltb (w - first) n && eqb (f (w - first)) s) ≡ true = right_of (leb first w) _ e in
      let l = leb-true first w from in
      record {
        place = w - first;
        held = ltb-true (w - first) n (left-of (ltb (w - first) n) _ rest);
        stretch = omega arith;
        number = eqb-true (f (w - first)) s (right_of (ltb (w - first) n) _ rest);
      }

  pub has-by : Has f n first w s → has_at f n first w s ≡ true
  unfolding has_at
  has-by h =
      let e : w - first ≡ h.place = omega (arith, h.stretch) in
      both (le-leb first w (omega (arith, h.stretch)))
      (both (lt-ltb (w - first) n (omega (arith, h.held))) (eq-eqb (f (w - first)) s (ap f e ∙ h.number)))

  -- by its three tests
  pub has-before : w < first → false ≡ has_at f n first w s
  unfolding has_at
  has-before l = rw (lt-leb first w l)

  pub has-beyond : first ≤ w → n ≤ w - first → false ≡ has_at f n first w s
  unfolding has_at
  has-beyond l h = rw (le-leb first w l, le-ltb (w - first) n h)

  pub has_within : first ≤ w → w - first < n → eqb (f (w - first)) s ≡ has_at f n first w s
  unfolding has_at
  has_within l h = rw (le-leb first w l, lt-ltb (w - first) n h)

-- the same row by other names
pub has_same : (f g : ℕ → ℕ) (n first w s : ℕ) → ((k : ℕ) → k < n → f k ≡ g k) → has_at f n first w s ≡ has_at g n first w s
has_same f g n first w s e =
    bool-ext (has_at f n first w s) (has_at g n first w s)
    (λ p. let h = has_of f n first w s p in has-by g n first w s (record { place = h.place; held = h.held; stretch = h.stretch; number = sym (e h.place h.held) ∙ h.number }))
    (λ p. let h = has_of g n first w s p in has-by f n first w s (record { place = h.place; held = h.held; stretch = h.stretch; number = e h.place h.held ∙ h.number }))

-- ---- the lists
added : (b : Bool) (x y k : ℕ) → cond b (x + k) (y + k) ≡ cond b (x + 0) (y + 0) + k
added true x y k = omega arith
added false x y k = omega arith

module _ (t : List ℕ) where
  -- the stretches of a list rise by one
  pub stretch-at : (i k : ℕ) → stretch_in t i k ≡ stretch_in t i 0 + k
  unfolding stretch_in
  stretch-at i k = added (ltb i places) _ _ k

  -- what list i shares with its record, list p
  pub record Shares (i k p : ℕ) : Type 0 where
    pub family : family_of t i ≡ p
    pub other : p ≢ i
    pub place : ℕ
    pub held : place < held_in t p
    pub stretch : stretch_in t p place ≡ stretch_in t i k
    pub number : listed t p place ≡ listed t i k

  pub shared_of : (i k : ℕ) → sharedb t i k ≡ true → Shares i k (family_of t i)
  unfolding sharedb
  shared_of i k e =
      let p : ℕ = family_of t i in
      let h = has_of (listed t p) (held_in t p) (stretch_in t p 0) (stretch_in t i k) (listed t i k) (right_of (not (eqb p i)) _ e) in
      record {
        family = refl;
        other = eqb-false p i (not-true (eqb p i) (left-of (not (eqb p i)) _ e));
        place = h.place;
        held = h.held;
        stretch = stretch-at p h.place ∙ h.stretch;
        number = h.number;
      }

  pub shared-by : (i k p : ℕ) → Shares i k p → sharedb t i k ≡ true
  unfolding sharedb
  shared-by i k p h =
      subst
      (λ (q : ℕ). (not (eqb q i) && has_at (listed t q) (held_in t q) (stretch_in t q 0) (stretch_in t i k) (listed t i k)) ≡ true)
      (sym h.family)
      (both (ap not (ne_eqb p i h.other))
      (has-by (listed t p) (held_in t p) (stretch_in t p 0) (stretch_in t i k) (listed t i k)
      (record { place = h.place; held = h.held; stretch = sym (stretch-at p h.place) ∙ h.stretch; number = h.number })))

  -- a list with no record but itself shares nothing
  pub own-self : (i k : ℕ) → family_of t i ≡ i → sharedb t i k ≡ false
  unfolding sharedb
  own-self i k e = rw (eq-eqb (family_of t i) i e)

  -- that of a list with a record, in the record's terms
  pub shared-with : (i k p : ℕ) → family_of t i ≡ p → p ≢ i
      → sharedb t i k ≡ has_at (listed t p) (held_in t p) (stretch_in t p 0) (stretch_in t i k) (listed t i k)
  unfolding sharedb
  shared-with i k p e d =
      ap (λ (q : ℕ). not (eqb q i) && has_at (listed t q) (held_in t q) (stretch_in t q 0) (stretch_in t i k) (listed t i k)) e
      ∙ rw (ne_eqb p i d)
