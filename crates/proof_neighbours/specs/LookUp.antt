-- What the landlord's own requests see of the catalogue is the same where he sees the same. Assumes nothing.
use Rattle.std.specs.Prelude.{ℕ, zero, suc, ◌≡◌, refl, Bool, true, false, not, ◌&&◌, ◌||◌, cond, List, [], ◌∷◌, map, T, get_or, set}
use Rattle.std.proofs.Common.{arith, sym, ap, ap₂, ◌∙◌}
use Rattle.std.proofs.Math.Bool.{and-true}
use Rattle.std.proofs.Math.Option.{Option, none, some}
use Rattle.std.proofs.Math.Dec.{not_T}
use Rattle.combine.specs.Laws.Searches.{any-first}
use Rattle.combine.specs.Lists.{any, first_where}
use Rattle.rules.specs.Headings.{Heading, head_of, passes, is_some}
use Rattle.rules.specs.Rules.{is_own, is_public, look_up}
use Rattle.segments.specs.Laws.Sound.{Single}
use Rattle.model.specs.Model.{File, Files}
use Rattle.combine.specs.Laws.Tests.{false_of}
use Rattle.proof_neighbours.specs.Sees.{found, SeesSame}

-- ---- look-up

module _ (f : Heading → Bool) where
  found_at : (rs : List (Option File)) → get_or rs (first_where (passes f) (map head_of rs)) none ≡ found f rs
  found_at [] = refl
  found_at (r ∷ rs) = go (passes f (head_of r)) (found_at rs)
    where
      go : (b : Bool) → get_or rs (first_where (passes f) (map head_of rs)) none ≡ found f rs
          → get_or (r ∷ rs) (cond b 0 (suc (first_where (passes f) (map head_of rs)))) none ≡ cond b r (found f rs)
      go true e = refl
      go false e = e

  -- something is found exactly if some record passes
  pub found-any : (rs : List (Option File)) → is_some (found f rs) ≡ any (passes f) (map head_of rs)
  found-any [] = refl
  found-any (none ∷ rs) = found-any rs
  found-any (some r ∷ rs) = go (f r.head) (found-any rs)
    where
      go : (b : Bool) → is_some (found f rs) ≡ any (passes f) (map head_of rs) → is_some (cond b (some r) (found f rs)) ≡ (b || any (passes f) (map head_of rs))
      go true e = refl
      go false e = e

-- what look-up finds, by name: his own, else the public one
abbrev pub looked : ℕ → List ℕ → List (Option File) → Option File
looked a n rs = cond (is_some (found (is_own a n) rs)) (found (is_own a n) rs) (found (is_public n) rs)

pub look-up-found : (a : ℕ) (n : List ℕ) (rs : List (Option File)) → get_or rs (look_up a n (map head_of rs)) none ≡ looked a n rs
unfolding look_up
look-up-found a n rs =
    ap (λ (b : Bool). get_or rs (cond b own public) none) (sym (any-first (passes (is_own a n)) (map head_of rs)) ∙ sym (found-any (is_own a n) rs))
    ∙ go (is_some (found (is_own a n) rs))
  where
    own : ℕ
    own = first_where (passes (is_own a n)) (map head_of rs)

    public : ℕ
    public = first_where (passes (is_public n)) (map head_of rs)

    go : (b : Bool) → get_or rs (cond b own public) none ≡ cond b (found (is_own a n) rs) (found (is_public n) rs)
    go true = found_at (is_own a n) rs
    go false = found_at (is_public n) rs

pub look-up-same : (a : ℕ) (h k : Files) → SeesSame a h k → (n : List ℕ)
    → get_or h.records (look_up a n (map head_of h.records)) none ≡ get_or k.records (look_up a n (map head_of k.records)) none
look-up-same a h k s n =
    look-up-found a n h.records
    ∙ (λ i. cond (is_some (s.own n i)) (s.own n i) (s.public n i))
    ∙ sym (look-up-found a n k.records)

-- ---- another record passes than the one at p

pub any-but : (f : Heading → Bool) (l : List (Option Heading)) → Single (passes f) l → (p : ℕ) → any (passes f) (set l p none) ≡ (any (passes f) l && not (passes f (get_or l p none)))
any-but f [] s p = refl
any-but f (x ∷ l) s zero = go (passes f x) refl
  where
    others : T (passes f x) → (j : ℕ) → T (not (passes f (get_or l j none)))
    others t j = not_T (passes f (get_or l j none)) (λ u. s 0 (suc j) (λ e. omega arith) t u)

    nobody : (m : List (Option Heading)) → ((j : ℕ) → T (not (passes f (get_or m j none)))) → any (passes f) m ≡ false
    nobody [] h = refl
    nobody (y ∷ m) h = ap₂ (λ (a b : Bool). a || b) (false_of (passes f y) (h 0)) (nobody m (λ j. h (suc j)))

    go : (b : Bool) → passes f x ≡ b → any (passes f) l ≡ ((b || any (passes f) l) && not b)
    go true e = nobody l (others (rw e tt))
    go false e = sym (and-true (any (passes f) l))
any-but f (x ∷ l) s (suc p) = go (passes f x) refl (any-but f l (λ i j d. s (suc i) (suc j) (λ e. d (omega arith))) p)
  where
    apart : T (passes f x) → passes f (get_or l p none) ≡ false
    apart t = false_of (passes f (get_or l p none)) (not_T (passes f (get_or l p none)) (λ u. s 0 (suc p) (λ e. omega arith) t u))

    go : (b : Bool) → passes f x ≡ b → any (passes f) (set l p none) ≡ (any (passes f) l && not (passes f (get_or l p none)))
        → (b || any (passes f) (set l p none)) ≡ ((b || any (passes f) l) && not (passes f (get_or l p none)))
    go true e ih = sym (ap not (apart (rw e tt)))
    go false e ih = ih
