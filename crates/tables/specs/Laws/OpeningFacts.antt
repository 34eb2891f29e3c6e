-- What a sound opening says, fact by fact. Assumes nothing.
use Rattle.std.specs.Prelude.{ℕ, ◌+◌, ◌-◌, ◌≤◌, ◌<◌, ◌≡◌, ◌≢◌, ◌⊎◌, Bool, true, false, not, ◌||◌, cond, List, get_or}
use Rattle.std.proofs.Common.{ap}
use Rattle.std.proofs.Math.Path.{subst}
use Rattle.std.proofs.Math.Logic.{inl, inr, ⊎_elim}
use native.Mathlib.Omega.{arith}
use Rattle.std.proofs.Math.Dec.{eqb}
use borrow.Author.Tests.{leb-true, eqb-true, eqb-false, eq-eqb, ne_eqb, not-true}
use Rattle.combine.specs.Below.{all_below}
use Rattle.combine.specs.Laws.Below.{all-at}
use Rattle.combine.specs.Laws.Rows.{each_of}
use Rattle.combine.specs.Laws.Same.{same_true}
use Rattle.placing.specs.Sizes.{entries, user_of, places, most_held, greatest_end, name_symbols, all_pointers}
use Rattle.placing.specs.Placing.{held_of}
use Rattle.names.specs.Names.{nameb}
use Rattle.tables.specs.declared.Record.{Record}
use Rattle.tables.specs.declared.Opening.{Opening}
use Rattle.tables.specs.Layout.{segments_in, opening_at}
use Rattle.tables.specs.Fields.{is_used, is_open, value_of, number_at, held_by_opening, record_for}
use Rattle.names.specs.Names.{opening_nameb}
use Rattle.tables.specs.Openings.{linkb, readb, workb, beside_recordb, pointersb, openb, closedb, openingb, openingsb}
use Rattle.tables.specs.Laws.ExtentFacts.{SoundExtent, SoundList, extentb-facts, listb-facts}

-- the first of two tests holds, or the second does
either : (a b : Bool) → (a || b) ≡ true → (a ≡ true) ⊎ (b ≡ true)
either true b e = inl e
either false b e = inr e

-- "a read opening's record is public or its user's own, and the opening has that record's name, species, begin, end and segments"
pub record SharedRead (i : ℕ) (o : Opening) (r : Record) : Type 0 where
  pub public_or_own : (r.private ≡ 0) ⊎ (r.owner ≡ user_of i)
  pub name : o.name ≡ r.name
  pub species : o.species ≡ r.species
  pub begin : value_of o 0 ≡ r.begin.0
  pub end : value_of o 1 ≡ r.end.0
  pub segments : (k : ℕ) → k < most_held → number_at o.segments k ≡ number_at r.segments k

pub readb-facts : (i : ℕ) (o : Opening) (r : Record) → readb i o r ≡ true → SharedRead i o r
unfolding readb
readb-facts i o r ok =
    let f = each_of _ ok in
    record {
      public_or_own =
          ⊎_elim (λ e. inl (eqb-true r.private 0 e)) (λ e. inr (eqb-true r.owner (user_of i) e))
          (either (eqb r.private 0) (eqb r.owner (user_of i)) f.0);
      name = same_true o.name r.name f.1.0;
      species = eqb-true o.species r.species f.1.1.0;
      begin = eqb-true (value_of o 0) r.begin.0 f.1.1.1.0;
      end = eqb-true (value_of o 1) r.end.0 f.1.1.1.1.0;
      segments = λ k l. eqb-true (number_at o.segments k) (number_at r.segments k) (all-at _ most_held f.1.1.1.1.1.0 k l);
    }

-- "a work opening's record is its user's own, of the same species, and has no other opening"
pub record SharedWork (t : List ℕ) (i : ℕ) (o : Opening) (r : Record) : Type 0 where
  pub own : r.owner ≡ user_of i
  pub species : r.species ≡ o.species
  pub no_other : (j : ℕ) → j < entries → j ≢ i → (opening_at t j).place ≢ o.place

pub workb-facts : (t : List ℕ) (i : ℕ) (o : Opening) (r : Record) → workb t i o r ≡ true → SharedWork t i o r
unfolding workb
workb-facts t i o r ok =
    let f = each_of _ ok in
    record {
      own = eqb-true r.owner (user_of i) f.0;
      species = eqb-true r.species o.species f.1.0;
      no_other = λ j l d.
          ⊎_elim (λ e. absurd (d (eqb-true j i e))) (λ e. eqb-false (opening_at t j).place o.place (not-true _ e))
          (either (eqb j i) (not (eqb (opening_at t j).place o.place)) (all-at _ entries f.1.1.0 j l));
    }

-- the opening o at entry i of the tables t
pub record SoundOpening (t : List ℕ) (i : ℕ) (o : Opening) : Type 0 where
  pub opened : o.opened ≡ 1
  -- "work permit (1 or 0)"
  pub permit : o.permit ≤ 1
  -- "each opening names one existing record, or none and then has the work permit"
  pub existing : o.place ≢ 0 → is_used (record_for t o) ≡ true
  pub none_for_work : o.place ≡ 0 → o.permit ≡ 1
  -- "a read opening's record is ..", "a work opening's record is .."
  pub read : o.place ≢ 0 → o.permit ≡ 0 → SharedRead i o (record_for t o)
  pub work : o.place ≢ 0 → o.permit ≡ 1 → SharedWork t i o (record_for t o)
  -- "an opening's name is as a record's or all 63"
  pub name : (nameb o.name ≡ true) ⊎ ((k : ℕ) → k < name_symbols → get_or o.name k 0 ≡ 63)
  -- "its species, begin, end and number of held segments are as for records"
  pub extent : SoundExtent o.species (value_of o 0) (value_of o 1)
  -- "the values of pointers 2 to 7, where they exist, are 1 to the greatest end value": the work pointer always exists
  pub work_pointer : 1 ≤ value_of o 2
  pub pointers : (p : ℕ) → 2 ≤ p → p < all_pointers → value_of o p ≤ greatest_end
  -- "all places and segment numbers are in range"
  pub place : o.place ≤ places
  pub list : SoundList (segments_in t) (held_of o.species (value_of o 0) (value_of o 1)) o.segments

module _ (t : List ℕ) (i : ℕ) (o : Opening) (ok : openb t i o ≡ true) where
  shares : o.place ≢ 0 → cond (eqb o.permit 0) (readb i o (record_for t o)) (workb t i o (record_for t o)) ≡ true
  unfolding openb beside_recordb
  shares d = rw (ne_eqb o.place 0 d) at (each_of _ ok).1.1.1.0

  shares-read : o.place ≢ 0 → o.permit ≡ 0 → SharedRead i o (record_for t o)
  shares-read d e = readb-facts i o (record_for t o) (rw (eq-eqb o.permit 0 e) at (shares d))

  shares-work : o.place ≢ 0 → o.permit ≡ 1 → SharedWork t i o (record_for t o)
  shares-work d e = workb-facts t i o (record_for t o) (rw (ne_eqb o.permit 0 (λ z. omega arith)) at (shares d))

  links : cond (eqb o.place 0) (eqb o.permit 1) (is_used (record_for t o)) ≡ true
  unfolding openb linkb
  links = (each_of _ ok).1.1.0

  titled : (nameb o.name ≡ true) ⊎ ((k : ℕ) → k < name_symbols → get_or o.name k 0 ≡ 63)
  unfolding openb opening_nameb
  titled =
      ⊎_elim (λ e. inl e) (λ e. inr (λ k l. eqb-true (get_or o.name k 0) 63 (all-at _ name_symbols e k l)))
      (either (nameb o.name) (all_below name_symbols (λ k. eqb (get_or o.name k 0) 63)) (each_of _ ok).1.1.1.1.0)

  pointed : (p : ℕ) → 2 ≤ p → p < all_pointers → value_of o p ≤ greatest_end
  unfolding openb pointersb
  pointed p l h =
      let e : 2 + (p - 2) ≡ p = omega arith in
      subst (λ (q : ℕ). value_of o q ≤ greatest_end) e
      (leb-true (value_of o (2 + (p - 2))) greatest_end (all-at _ (all_pointers - 2) (each_of _ (each_of _ ok).1.1.1.1.1.1.0).1.0 (p - 2) (omega arith)))

  pub openb-facts : SoundOpening t i o
  unfolding openb pointersb
  openb-facts =
      let f = each_of _ ok in
      let g = f.1.1.1.1.1 in
      record {
        opened = eqb-true o.opened 1 f.0;
        permit = leb-true o.permit 1 f.1.0;
        existing = λ d. rw (ne_eqb o.place 0 d) at links;
        none_for_work = λ e. eqb-true o.permit 1 (rw (eq-eqb o.place 0 e) at links);
        read = shares-read;
        work = shares-work;
        name = titled;
        extent = extentb-facts o.species (value_of o 0) (value_of o 1) g.0;
        work_pointer = leb-true 1 (value_of o 2) (each_of _ g.1.0).0;
        pointers = pointed;
        place = leb-true o.place places g.1.1.0;
        list = listb-facts (segments_in t) (held_of o.species (value_of o 0) (value_of o 1)) o.segments g.1.1.1.0;
      }

-- "A file holds one segment for each stretch with at least one of its positions": the number that the list has
pub opening-holds : {t : List ℕ} {i : ℕ} {o : Opening} → SoundOpening t i o → held_by_opening o ≡ held_of o.species (value_of o 0) (value_of o 1)
unfolding held_by_opening
opening-holds {o = o} f =
    let e : eqb o.opened 0 ≡ false = ap (λ (k : ℕ). eqb k 0) f.opened in
    rw e

-- ---- in sound openings

module _ (t : List ℕ) (ok : openingsb t ≡ true) where
  -- an opening that is not closed
  pub opening-not-closed : (i : ℕ) → i < entries → ((opening_at t i).opened ≡ 0 → ⊥) → SoundOpening t i (opening_at t i)
  unfolding openingsb openingb
  opening-not-closed i li d = openb-facts t i (opening_at t i) (rw (ne_eqb (opening_at t i).opened 0 d) at (all-at _ entries ok i li))

  pub opening-facts : (i : ℕ) → i < entries → is_open (opening_at t i) ≡ true → SoundOpening t i (opening_at t i)
  opening-facts i li u =
      let e : (opening_at t i).opened ≡ 1 = eqb-true (opening_at t i).opened 1 u in
      opening-not-closed i li (λ z. omega arith)

  -- a closed entry names no record and has no permit
  closed_facts : (i : ℕ) → i < entries → (opening_at t i).opened ≡ 0 → closedb (opening_at t i) ≡ true
  unfolding openingsb openingb
  closed_facts i li z = rw (eq-eqb (opening_at t i).opened 0 z) at (all-at _ entries ok i li)

  pub closed-place : (i : ℕ) → i < entries → (opening_at t i).opened ≡ 0 → (opening_at t i).place ≡ 0
  unfolding closedb
  closed-place i li z = eqb-true (opening_at t i).place 0 (each_of _ (closed_facts i li z)).0

  pub closed-permit : (i : ℕ) → i < entries → (opening_at t i).opened ≡ 0 → (opening_at t i).permit ≡ 0
  unfolding closedb
  closed-permit i li z = eqb-true (opening_at t i).permit 0 (each_of _ (closed_facts i li z)).1.0
