-- What another does privately, the landlord does not see. Assumes nothing.
use Rattle.std.specs.Prelude.{ℕ, zero, suc, ◌≤◌, ◌≡◌, refl, ◌≢◌, Bool, true, false, not, ◌&&◌, cond, List, [], ◌∷◌, T, eqb, get_or, set}
use Rattle.std.proofs.Common.{arith, sym, ap, ◌∙◌, subst, T_not, get_or-set_other}
use Rattle.std.proofs.Math.Option.{Option, none, some}
use Rattle.placing.specs.Sizes.{greatest_entry, entry_of, user_of}
use Rattle.rules.specs.Readable.{may_read}
use Rattle.rules.specs.Headings.{Heading, Open, head_of, passes}
use Rattle.rules.specs.Rules.{is_own, is_public, has_name}
use Rattle.rules.specs.House.{house}
use Rattle.model.specs.Model.{File, Body, Files}
use Rattle.combine.specs.Laws.Tests.{false_of, nor-first, nor-second}
use Rattle.proof_neighbours.specs.Sees.{found, SamePlace, SameEntry, SeesSame, unseen}

-- ---- an entry that is not the landlord's

pub entry-unseen : (a : ℕ) (h k : Files) (i : ℕ) (y : Option (Open Body)) → user_of i ≢ a → SeesSame a h k
    → SeesSame a h (house k.segments k.records (set k.openings i y))
entry-unseen a h k i y d s = record {
  own = s.own;
  public = s.public;
  mine = λ e l. subst (SameEntry a h.records k.records (get_or h.openings (entry_of a e) none))
      (sym (get_or-set_other k.openings i (entry_of a e) y none (λ q. d (other e l q)))) (s.mine e l);
}
  where
    other : (e : ℕ) → e ≤ greatest_entry → entry_of a e ≡ i → user_of i ≡ a
    other e l q = omega (arith, l, q)

-- ---- a place that he sees nothing of, before and after

found-unseen : (f : Heading → Bool) (rs : List (Option File)) (p : ℕ) (y : Option File) → T (not (passes f (head_of (get_or rs p none)))) → T (not (passes f (head_of y)))
    → found f (set rs p y) ≡ found f rs
found-unseen f [] p y t u = refl
found-unseen f (r ∷ rs) zero y t u = rw (false_of (passes f (head_of r)) t, false_of (passes f (head_of y)) u) refl
found-unseen f (r ∷ rs) (suc p) y t u = ap (cond (passes f (head_of r)) r) (found-unseen f rs p y t u)

-- unseen: neither his own nor public
unseen-own : (a : ℕ) (n : List ℕ) (r : Option File) → T (unseen a r) → T (not (passes (is_own a n) (head_of r)))
unseen-own a n none t = tt
unseen-own a n (some r) t = go (eqb r.head.owner a) (has_name n r.head) (nor-second (not r.head.private) (eqb r.head.owner a) t)
  where
    go : (b c : Bool) → T (not b) → T (not (b && c))
    go true c t = absurd t
    go false c t = tt

unseen-public : (a : ℕ) (n : List ℕ) (r : Option File) → T (unseen a r) → T (not (passes (is_public n) (head_of r)))
unseen-public a n none t = tt
unseen-public a n (some r) t = go (not r.head.private) (has_name n r.head) (nor-first (not r.head.private) (eqb r.head.owner a) t)
  where
    go : (b c : Bool) → T (not b) → T (not (b && c))
    go true c t = absurd t
    go false c t = tt

module _ (a : ℕ) (rs qs : List (Option File)) (p : ℕ) (y : Option File) (old : T (unseen a (get_or qs p none))) where
  -- his openings are of other places
  place-elsewhere : (q r : Option ℕ) → SamePlace a rs qs q r → SamePlace a rs (set qs p y) q r
  place-elsewhere none none s = tt
  place-elsewhere none (some r) s = s
  place-elsewhere (some q) none s = s
  place-elsewhere (some q) (some r) s =
      (s.0, s.1, s.2, get_or-set_other qs p r y none (λ e. clash e) ∙ s.3)
    where
      clash : r ≡ p → ⊥
      clash e =
          let z : get_or qs p none ≡ some s.0 = subst (λ (k : ℕ). get_or qs k none ≡ some s.0) e s.3 in
          T_not (may_read a s.0.head) (subst (λ (o : Option File). T (unseen a o)) z old) s.1

  entry-elsewhere : (x z : Option (Open Body)) → SameEntry a rs qs x z → SameEntry a rs (set qs p y) x z
  entry-elsewhere none none s = tt
  entry-elsewhere none (some z) s = s
  entry-elsewhere (some x) none s = s
  entry-elsewhere (some x) (some z) s = record {
    place = place-elsewhere x.handle.place z.handle.place s.place;
    permit = s.permit;
    name = s.name;
    species = s.species;
    pointers = s.pointers;
    content = s.content;
  }

pub place-unseen : (a : ℕ) (h k : Files) (p : ℕ) (y : Option File) → T (unseen a (get_or k.records p none)) → T (unseen a y) → SeesSame a h k
    → SeesSame a h (house k.segments (set k.records p y) k.openings)
place-unseen a h k p y old new s = record {
  own = λ n. s.own n ∙ sym (found-unseen (is_own a n) k.records p y (unseen-own a n (get_or k.records p none) old) (unseen-own a n y new));
  public = λ n. s.public n ∙ sym (found-unseen (is_public n) k.records p y (unseen-public a n (get_or k.records p none) old) (unseen-public a n y new));
  mine = λ e l. entry-elsewhere a h.records k.records p y old (get_or h.openings (entry_of a e) none) (get_or k.openings (entry_of a e) none) (s.mine e l);
}
