-- The landlord's own changes, in two houses where he sees the same: at his entry, and at one place of the catalogue. Assumes nothing.
use Rattle.std.specs.Prelude.{ℕ, zero, suc, ◌≤◌, ◌<◌, ◌≡◌, refl, ◌≢◌, Bool, true, false, not, cond, List, [], ◌∷◌, map, T, length, get_or, set}
use Rattle.std.proofs.Common.{arith, le_of_suc-le-suc, not-suc-le-zero, sym, ap, ap₂, ◌∙◌, subst, get_or-set_same, get_or-set_other}
use Rattle.std.proofs.Math.Decide.{ℕ_discrete}
use Rattle.std.proofs.Math.Option.{Option, none, some}
use Rattle.std.proofs.Math.Dec.{not_T}
use Rattle.std.proofs.Math.ListN.{get_or-map}
use Rattle.placing.specs.Sizes.{greatest_user, greatest_entry, entries, entry_of}
use Rattle.rules.specs.Readable.{may_read}
use Rattle.rules.specs.Laws.Readable.{may_read_at}
use Rattle.rules.specs.Headings.{Heading, Open, head_of, passes}
use Rattle.rules.specs.Rules.{is_own, is_public}
use Rattle.rules.specs.House.{house}
use Rattle.segments.specs.Laws.Sound.{Single}
use Rattle.model.specs.Model.{File, Body, Files}
use Rattle.combine.specs.Laws.Tests.{false_of}
use Rattle.proof_neighbours.specs.Sees.{found, SamePlace, SameEntry, SeesSame}
use Rattle.proof_neighbours.proofs.Busy.{Known, one_place}

-- ---- what is found after a place was set

module _ (f : Heading → Bool) where
  found_none : (rs : List (Option File)) → ((j : ℕ) → T (not (passes f (head_of (get_or rs j none))))) → found f rs ≡ none
  found_none [] h = refl
  found_none (r ∷ rs) h = rw (false_of (passes f (head_of r)) (h 0)) (found_none rs (λ j. h (suc j)))

  -- at most one place of the records passes
  abbrev Once : List (Option File) → Type 0
  Once rs = (i j : ℕ) → i ≢ j → T (passes f (head_of (get_or rs i none))) → T (passes f (head_of (get_or rs j none))) → ⊥

  once-of : (rs : List (Option File)) → Single (passes f) (map head_of rs) → Once rs
  once-of rs s i j d t u = s i j d (rw (get_or-map head_of rs i none) t) (rw (get_or-map head_of rs j none) u)

  found-set-once : (rs : List (Option File)) (p : ℕ) (y : Option File) → p < length rs → Once rs → Once (set rs p y)
      → found f (set rs p y) ≡ cond (passes f (head_of y)) y (cond (passes f (head_of (get_or rs p none))) none (found f rs))
  found-set-once [] p y l s z = absurd (not-suc-le-zero l)
  found-set-once (r ∷ rs) zero y l s z = go (passes f (head_of y)) (passes f (head_of r)) refl
    where
      go : (b c : Bool) → passes f (head_of r) ≡ c → cond b y (found f rs) ≡ cond b y (cond c none (cond c r (found f rs)))
      go true c e = refl
      go false true e = found_none rs (λ j. not_T (passes f (head_of (get_or rs j none))) (λ u. s 0 (suc j) (λ q. omega arith) (rw e tt) u))
      go false false e = refl
  found-set-once (r ∷ rs) (suc p) y l s z =
      ap (cond (passes f (head_of r)) r) (found-set-once rs p y (le_of_suc-le-suc l) (λ i j d. s (suc i) (suc j) (λ e. d (omega arith))) (λ i j d. z (suc i) (suc j) (λ e. d (omega arith))))
      ∙ go (passes f (head_of r)) refl
    where
      new : T (passes f (head_of r)) → passes f (head_of y) ≡ false
      new t = false_of (passes f (head_of y)) (not_T (passes f (head_of y))
          (λ u. z 0 (suc p) (λ q. omega arith) t (rw (get_or-set_same rs p y none (le_of_suc-le-suc l)) u)))

      old : T (passes f (head_of r)) → passes f (head_of (get_or rs p none)) ≡ false
      old t = false_of (passes f (head_of (get_or rs p none))) (not_T (passes f (head_of (get_or rs p none))) (λ u. s 0 (suc p) (λ q. omega arith) t u))

      go : (b : Bool) → passes f (head_of r) ≡ b
          → cond b r (cond (passes f (head_of y)) y (cond (passes f (head_of (get_or rs p none))) none (found f rs)))
          ≡ cond (passes f (head_of y)) y (cond (passes f (head_of (get_or rs p none))) none (cond b r (found f rs)))
      go true e = rw (new (rw e tt), old (rw e tt)) refl
      go false e = refl

  found-set : (rs : List (Option File)) (p : ℕ) (y : Option File) → p < length rs → Single (passes f) (map head_of rs) → Single (passes f) (map head_of (set rs p y))
      → found f (set rs p y) ≡ cond (passes f (head_of y)) y (cond (passes f (head_of (get_or rs p none))) none (found f rs))
  found-set rs p y l s z = found-set-once rs p y l (once-of rs s) (once-of (set rs p y) z)

-- ---- his entry

-- nothing, or a file that he sees
abbrev pub SeenOr : ℕ → Option File → Type 0
SeenOr a f = T (may_read_at a (head_of f))

-- one place here and one there: free in both, or of one file that he sees
pub record Spot (a : ℕ) (rs qs : List (Option File)) (p q : ℕ) : Type 0 where
  pub filed : Option File
  pub here : get_or rs p none ≡ filed
  pub there : get_or qs q none ≡ filed
  pub sees : SeenOr a filed
  pub within : p < length rs
  pub inside : q < length qs

module _ (a : ℕ) (h k : Files) (s : SeesSame a h k) (wh : Known a h) (wk : Known a k) (e : ℕ) (le : e ≤ greatest_entry) (la : a ≤ greatest_user) where
  abbrev i : ℕ
  i = entry_of a e

  at_entry : (l : List (Option (Open Body))) (y : Option (Open Body)) → length l ≡ entries → get_or (set l i y) i none ≡ y
  at_entry l y n = get_or-set_same l i y none (omega (arith, n, le, la))

  -- another entry of his is as it was
  at_other : (l : List (Option (Open Body))) (y : Option (Open Body)) (d : ℕ) → d ≢ e → get_or (set l i y) (entry_of a d) none ≡ get_or l (entry_of a d) none
  at_other l y d n = get_or-set_other l i (entry_of a d) y none (λ q. n (omega (arith, q)))

  -- the entry gets what is the same
  pub entry-same : (x y : Option (Open Body)) → SameEntry a h.records k.records x y
      → SeesSame a (house h.segments h.records (set h.openings i x)) (house k.segments k.records (set k.openings i y))
  entry-same x y t = record { own = s.own; public = s.public; mine = λ d l. go d l (ℕ_discrete d e) }
    where
      go : (d : ℕ) → d ≤ greatest_entry → Dec (d ≡ e)
          → SameEntry a h.records k.records (get_or (set h.openings i x) (entry_of a d) none) (get_or (set k.openings i y) (entry_of a d) none)
      go d l (yes q) = rw (q, at_entry h.openings x wh.entries, at_entry k.openings y wk.entries) t
      go d l (no n) = rw (at_other h.openings x d n, at_other k.openings y d n) (s.mine d l)

  -- the entry is emptied, and the place gets what is the same
  module _ (p q : ℕ) (y : Option File) (spot : Spot a h.records k.records p q) (new : SeenOr a y)
      (zh : Known a (house h.segments (set h.records p y) (set h.openings i none)))
      (zk : Known a (house k.segments (set k.records q y) (set k.openings i none))) where
    found-same : (f : Heading → Bool) → found f h.records ≡ found f k.records → Single (passes f) (map head_of h.records) → Single (passes f) (map head_of k.records)
        → Single (passes f) (map head_of (set h.records p y)) → Single (passes f) (map head_of (set k.records q y))
        → found f (set h.records p y) ≡ found f (set k.records q y)
    found-same f same sh sk th tk =
        found-set f h.records p y spot.within sh th
        ∙ ap₂ (λ (o : Option File) (r : Option File). cond (passes f (head_of y)) y (cond (passes f (head_of o)) none r)) (spot.here ∙ sym spot.there) same
        ∙ sym (found-set f k.records q y spot.inside sk tk)

    -- what he sees is there once
    there-here : (f : File) → T (may_read a f.head) → (m n : ℕ) → get_or h.records m none ≡ some f → get_or k.records n none ≡ some f → n ≡ q → m ≡ p
    there-here f t m n em en e =
        let z : get_or k.records q none ≡ some f = subst (λ (j : ℕ). get_or k.records j none ≡ some f) e en in
        one_place a h wh f t m p em (spot.here ∙ sym spot.there ∙ z)

    here-there : (f : File) → T (may_read a f.head) → (m n : ℕ) → get_or h.records m none ≡ some f → get_or k.records n none ≡ some f → m ≡ p → n ≡ q
    here-there f t m n em en e =
        let z : get_or h.records p none ≡ some f = subst (λ (j : ℕ). get_or h.records j none ≡ some f) e em in
        one_place a k wk f t n q en (spot.there ∙ sym spot.here ∙ z)

    place_same : (m n : Option ℕ) → ((j : ℕ) → m ≡ some j → (g : File) × (get_or (set h.records p y) j none ≡ some g))
        → SamePlace a h.records k.records m n → SamePlace a (set h.records p y) (set k.records q y) m n
    place_same none none w t = tt
    place_same none (some n) w t = t
    place_same (some m) none w t = t
    place_same (some m) (some n) w t = go (ℕ_discrete m p)
      where
        go : Dec (m ≡ p) → SamePlace a (set h.records p y) (set k.records q y) (some m) (some n)
        go (yes e) =
            let r = w m refl in
            let z : y ≡ some r.0 = sym (get_or-set_same h.records p y none spot.within) ∙ subst (λ (j : ℕ). get_or (set h.records p y) j none ≡ some r.0) e r.1 in
            let d : n ≡ q = here-there t.0 t.1 m n t.2 t.3 e in
            (r.0, subst (SeenOr a) z new, r.1, subst (λ (j : ℕ). get_or (set k.records q y) j none ≡ some r.0) (sym d) (get_or-set_same k.records q y none spot.inside ∙ z))
        go (no d) = (
          t.0,
          t.1,
          get_or-set_other h.records p m y none d ∙ t.2,
          get_or-set_other k.records q n y none (λ e. d (there-here t.0 t.1 m n t.2 t.3 e)) ∙ t.3,
        )

    other-same : (d : ℕ) → d ≢ e → (x z : Option (Open Body)) → get_or h.openings (entry_of a d) none ≡ x
        → SameEntry a h.records k.records x z → SameEntry a (set h.records p y) (set k.records q y) x z
    other-same d n none none ix t = tt
    other-same d n none (some z) ix t = t
    other-same d n (some x) none ix t = t
    other-same d n (some x) (some z) ix t = record {
      place = place_same x.handle.place z.handle.place
          (λ j ej. let r = zh.tied (entry_of a d) j x (at_other h.openings none d n ∙ ix) ej in (r.filed, r.there)) t.place;
      permit = t.permit;
      name = t.name;
      species = t.species;
      pointers = t.pointers;
      content = t.content;
    }

    pub refiled-same : SeesSame a (house h.segments (set h.records p y) (set h.openings i none)) (house k.segments (set k.records q y) (set k.openings i none))
    refiled-same = record {
      own = λ n. found-same (is_own a n) (s.own n) (wh.own n) (wk.own n) (zh.own n) (zk.own n);
      public = λ n. found-same (is_public n) (s.public n) (wh.public n) (wk.public n) (zh.public n) (zk.public n);
      mine = λ d l. go d l (ℕ_discrete d e);
    }
      where
        go : (d : ℕ) → d ≤ greatest_entry → Dec (d ≡ e)
            → SameEntry a (set h.records p y) (set k.records q y) (get_or (set h.openings i none) (entry_of a d) none) (get_or (set k.openings i none) (entry_of a d) none)
        go d l (yes q) = rw (q, at_entry h.openings none wh.entries, at_entry k.openings none wk.entries) tt
        go d l (no n) = rw (at_other h.openings none d n, at_other k.openings none d n)
            (other-same d n (get_or h.openings (entry_of a d) none) (get_or k.openings (entry_of a d) none) refl (s.mine d l))
