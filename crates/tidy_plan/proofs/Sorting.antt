-- The kinds of segments, by their marks. Assumes nothing.
use Prim.Native.Nat.{ℕ, ◌≤◌, ◌<◌}
use mathlib.Core.Path.{◌≡◌, refl}
use mathlib.Core.Bool.{Bool, true, false, not, ◌&&◌, cond}
use borrow.Author.Tests.{lt-ltb, le-ltb, le-leb, lt-leb, eq-eqb, ne_eqb}
use lib.Dec.{eqb, ltb, leb}
use Rattle.tidy_plan.specs.Kinds.{kind_of}

-- ---- kinds

pub kind-one : (m g low : ℕ) → eqb (kind_of m g low) 1 ≡ (not (eqb m 0) && leb low g)
unfolding kind_of
kind-one m g low = go (eqb m 0) (ltb g low) (leb low g)
  where
    go : (a b c : Bool) → eqb (cond a (cond b 2 0) (cond c 1 0)) 1 ≡ (not a && c)
    go true true c = refl
    go true false c = refl
    go false b true = refl
    go false b false = refl

pub kind-two : (m g low : ℕ) → eqb (kind_of m g low) 2 ≡ (eqb m 0 && ltb g low)
unfolding kind_of
kind-two m g low = go (eqb m 0) (ltb g low) (leb low g)
  where
    go : (a b c : Bool) → eqb (cond a (cond b 2 0) (cond c 1 0)) 2 ≡ (a && b)
    go true true c = refl
    go true false c = refl
    go false b true = refl
    go false b false = refl

module _ (m g low : ℕ) where
  pub kind-high : (m ≡ 0 → ⊥) → low ≤ g → 1 ≡ kind_of m g low
  unfolding kind_of
  kind-high d l = rw (ne_eqb m 0 d, le-leb low g l) refl

  pub kind-low : (m ≡ 0 → ⊥) → g < low → 0 ≡ kind_of m g low
  unfolding kind_of
  kind-low d l = rw (ne_eqb m 0 d, lt-leb low g l) refl

  pub kind-gap : m ≡ 0 → g < low → 2 ≡ kind_of m g low
  unfolding kind_of
  kind-gap e l = rw (eq-eqb m 0 e, lt-ltb g low l) refl

  pub kind-free : m ≡ 0 → low ≤ g → 0 ≡ kind_of m g low
  unfolding kind_of
  kind-free e l = rw (eq-eqb m 0 e, le-ltb g low l) refl

pub ruleset kinds = (kind-high, kind-low, kind-gap, kind-free)
