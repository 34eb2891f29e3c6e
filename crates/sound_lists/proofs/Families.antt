-- In `Ranged` tables t no two lists but a record's and its openings' are of one family, and of two openings of one record neither
-- has an own place. Assumes nothing.
use Prim.Native.Nat.{ℕ, ◌+◌, ◌-◌, ◌≤◌, ◌<◌}
use mathlib.Core.Path.{◌≡◌, refl, sym, ap, subst, ◌∙◌}
use mathlib.Core.Logic.{◌≢◌, ◌⊎◌, ⊎_elim}
use mathlib.Core.Bool.{true, false}
use mathlib.Core.List.{List}
use native.Mathlib.Omega.{arith}
use Rattle.combine.specs.Laws.Below.{not-both, split-bool}
use Rattle.combine.specs.Laws.Numbers.{le-or-lt, eq-or-ne}
use Rattle.placing.specs.Sizes.{places, entries, lists}
use Rattle.placing.specs.Placing.{held_of, stretch_of}
use Rattle.tables.specs.Layout.{segments_in, record_at, opening_at}
use Rattle.tables.specs.Fields.{value_of}
use Rattle.tables.specs.Lists.{held_in, listed, stretch_in, family_of}
use Rattle.tables.specs.Laws.Lists.{Distinct}
use Rattle.tables.specs.Laws.Sound.{Ranged}
use Rattle.tables.specs.Laws.RecordFacts.{record-holds, record-facts}
use Rattle.tables.specs.Laws.OpeningFacts.{SoundOpening, opening-holds, opening-not-closed, closed-place}
use Rattle.sound_lists.specs.ListCells as list
use Rattle.sound_lists.specs.ListFacts.{opening-at, list-facts}
use Rattle.sound_lists.specs.Shared.{sharedb}
use Rattle.sound_lists.proofs.Sharing.{stretch-at, shared_of, shared-by, own-self}

-- a list is a record's or an opening's
pub by_kind : (P : ℕ → Type 0) → ((p : ℕ) → p < places → P p) → ((j : ℕ) → j < entries → P (places + j)) → (i : ℕ) → i < lists → P i
by_kind P f g i l =
    ⊎_elim (λ h. let e : places + (i - places) ≡ i = omega arith in subst P e (g (i - places) (omega arith))) (f i) (le-or-lt places i)

module _ (t : List ℕ) (ok : Ranged t) where
  -- an opening that names a record
  module _ (j : ℕ) (lj : j < entries) (d : (opening_at t j).place ≢ 0) where
    pub names-record : SoundOpening t j (opening_at t j)
    names-record = opening-not-closed t ok.2 j lj (λ z. d (closed-place t ok.2 j lj z))

    pub its-family : family_of t (places + j) ≡ (opening_at t j).place - 1
    its-family = list.opening-family-some t j d

    pub its-record : (opening_at t j).place - 1 < places
    its-record = omega (arith, names-record.place)

  -- a family is a list's own, or a record's
  pub family-record : (i : ℕ) → i < lists → family_of t i ≢ i → family_of t i < places
  family-record = by_kind (λ i. family_of t i ≢ i → family_of t i < places)
      (λ p l d. absurd (d (list.record-family t p l)))
      (λ j l d. ⊎_elim (λ z. absurd (d (list.opening-family-none t j z))) (λ n. omega (arith, its-family j l n, its-record j l n)) (eq-or-ne (opening_at t j).place 0))

  pub family-again : (i : ℕ) → i < lists → family_of t (family_of t i) ≡ family_of t i
  family-again i l = ⊎_elim (ap (family_of t)) (λ d. list.record-family t (family_of t i) (family-record i l d)) (eq-or-ne (family_of t i) i)

  -- "the opening has that record's .. species, begin, end and segments"
  pub read-shared : (j : ℕ) → j < entries → (opening_at t j).permit ≡ 0 → (k : ℕ) → k < held_in t (places + j) → sharedb t (places + j) k ≡ true
  read-shared j lj z k lk =
      let o = opening_at t j in
      let p : ℕ = o.place - 1 in
      let s = opening-at t ok j lj (λ e. omega (arith, list.opening-held-closed t j e)) in
      let d : o.place ≢ 0 = λ e. omega (arith, s.none_for_work e) in
      let lp : p < places = its-record j lj d in
      let f = s.read d z in
      let r = record-facts t (segments_in t) ok.1 p lp (s.existing d) in
      let opened : held_in t (places + j) ≡ held_of o.species (value_of o 0) (value_of o 1) = list.opening-held t j ∙ opening-holds s in
      let filed : held_in t p ≡ held_of (record_at t p).species (record_at t p).begin.0 (record_at t p).end.0 = list.record-held t p lp ∙ record-holds r in
      let same : held_in t (places + j) ≡ held_in t p = opened ∙ (λ i. held_of (f.species i) (f.begin i) (f.end i)) ∙ sym filed in
      shared-by t (places + j) k p
      (record {
        family = its-family j lj d;
        other = λ e. omega arith;
        place = k;
        held = omega arith;
        stretch = list.record-stretch t p lp k ∙ sym (list.opening-stretch t j k ∙ (λ i. stretch_of (f.species i) (f.begin i) + k));
        number = list.record-number t p lp k ∙ sym (list.opening-number t j k ∙ f.segments k (omega (arith, (list-facts t ok (places + j) (omega arith)).held)));
      })

  -- two openings of one record are read openings, as a work opening's record "has no other opening"
  module _ (i j : ℕ) (li : i < entries) (lj : j < entries) (other : j ≢ i) (d : (opening_at t i).place ≢ 0) (same : (opening_at t j).place ≡ (opening_at t i).place) where
    pub both_read : (opening_at t i).permit ≡ 0
    both_read =
        let s = names-record i li d in
        ⊎_elim (λ z. z) (λ n. absurd ((s.work d (omega (arith, s.permit))).no_other j lj other same)) (eq-or-ne (opening_at t i).permit 0)

  -- of two lists of one family, the later one shares what both have at one stretch
  abbrev Later : ℕ → Type 0
  Later i =
      (k j l : ℕ) → j < i → k < held_in t i → l < held_in t j → family_of t j ≡ family_of t i → stretch_in t j l ≡ stretch_in t i k
      → listed t j l ≡ listed t i k → sharedb t i k ≡ true

  later-record : (i : ℕ) → i < places → Later i
  later-record i li k j l lj lk ll e es en = absurd (let y : ⊥ = omega (arith, list.record-family t i li, list.record-family t j (omega arith)) in y)

  later-new : (i : ℕ) → i < entries → (opening_at t i).place ≡ 0 → Later (places + i)
  later-new i li z k j l lj lk ll e es en =
      let own : family_of t (places + i) ≡ places + i = list.opening-family-none t i z in
      absurd (⊎_elim (λ q. let y : ⊥ = omega arith in y) (λ q. let y : ⊥ = omega (arith, family-record j (omega arith) q) in y) (eq-or-ne (family_of t j) j))

  later-work : (i : ℕ) → i < entries → (opening_at t i).place ≢ 0 → Later (places + i)
  later-work i li d k j l lj lk ll e es en = ⊎_elim opened filed (le-or-lt places j)
    where
      filed : j < places → sharedb t (places + i) k ≡ true
      filed h =
          shared-by t (places + i) k j
          (record { family = sym e ∙ list.record-family t j h; other = λ q. omega arith; place = l; held = ll; stretch = es; number = en })

      opened : places ≤ j → sharedb t (places + i) k ≡ true
      opened h =
          let o : ℕ = j - places in
          let q : j ≡ places + o = omega arith in
          let f : family_of t (places + o) ≡ (opening_at t i).place - 1 = ap (family_of t) (sym q) ∙ e ∙ its-family i li d in
          let n : (opening_at t o).place ≢ 0 = λ z. omega (arith, list.opening-family-none t o z, its-record i li d) in
          let same : (opening_at t o).place ≡ (opening_at t i).place = omega (arith, its-family o (omega arith) n) in
          read-shared i li (both_read i o li (omega arith) (λ z. omega arith) d same) k lk

  pub later-shares : (i : ℕ) → i < lists → Later i
  later-shares = by_kind Later later-record (λ i li. ⊎_elim (later-new i li) (later-work i li) (eq-or-ne (opening_at t i).place 0))

  -- ---- two own places have one number: the lists are not distinct
  pub own-clash : (i k j l : ℕ) → i < lists → k < held_in t i → l < held_in t j → (j < i) ⊎ ((j ≡ i) × (l < k)) → sharedb t i k ≡ false
      → listed t j l ≡ listed t i k → Distinct t lists → ⊥
  own-clash i k j l li lk ll before own en x =
      let w = x j l i k (⊎_elim (λ a. omega arith) (λ a. omega (arith, a.0)) before) ll li lk en in
      ⊎_elim
      (λ a. not-both (later-shares i li k j l a lk ll w.0 w.1 en) own)
      (λ a. let e : stretch_in t j l ≡ stretch_in t i l = ap (λ (y : ℕ). stretch_in t y l) a.0 in omega (arith, w.1, a.1, stretch-at t i k, stretch-at t i l))
      before

  -- ---- each place has the number of an own place of its family and stretch
  pub record Root (i k : ℕ) : Type 0 where
    pub list : ℕ
    pub place : ℕ
    pub inside : list < lists
    pub held : place < held_in t list
    pub own : sharedb t list place ≡ false
    pub number : listed t list place ≡ listed t i k
    pub family : family_of t list ≡ family_of t i
    pub stretch : stretch_in t list place ≡ stretch_in t i k

  pub root : (i k : ℕ) → i < lists → k < held_in t i → Root i k
  root i k li lk = ⊎_elim shared self (split-bool (sharedb t i k))
    where
      self : sharedb t i k ≡ false → Root i k
      self own = record { list = i; place = k; inside = li; held = lk; own = own; number = refl; family = refl; stretch = refl }

      shared : sharedb t i k ≡ true → Root i k
      shared e =
          let h = shared_of t i k e in
          let again = family-again i li in
          record {
            list = family_of t i;
            place = h.place;
            inside = omega (arith, family-record i li h.other);
            held = h.held;
            own = own-self t (family_of t i) h.place again;
            number = h.number;
            family = again;
            stretch = h.stretch;
          }

  -- no two own places have one number: the lists are distinct
  pub roots-distinct : ((j l j' l' : ℕ) → j < lists → l < held_in t j → sharedb t j l ≡ false → j' < lists → l' < held_in t j' → sharedb t j' l' ≡ false
      → listed t j l ≡ listed t j' l' → (j ≡ j') × (l ≡ l')) → Distinct t lists
  roots-distinct once i k j l li lk lj ll e =
      let a = root i k li lk in
      let b = root j l lj ll in
      let w = once a.list a.place b.list b.place a.inside a.held a.own b.inside b.held b.own (a.number ∙ e ∙ sym b.number) in
      (sym a.family ∙ ap (family_of t) w.0 ∙ b.family, sym a.stretch ∙ (λ q. stretch_in t (w.0 q) (w.1 q)) ∙ b.stretch)
