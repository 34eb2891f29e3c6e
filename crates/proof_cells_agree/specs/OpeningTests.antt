-- Openings in the cells t that say what is sound pass the tests. Assumes nothing.
use Prim.Native.Nat.{ℕ, suc, ◌+◌, ◌-◌, ◌≤◌, ◌<◌}
use native.Mathlib.Omega.{arith}
use Rattle.std.specs.Prelude.{◌≡◌, ◌≢◌, ◌||◌, get_or}
use Rattle.std.proofs.Math.Path.{refl, ap, subst}
use Rattle.std.proofs.Common.{sym, ◌∙◌}
use Rattle.std.proofs.Math.Logic.{⊎_elim}
use Rattle.std.proofs.Math.Bool.{Bool, true, false, not, cond}
use Rattle.std.proofs.Math.Option.{Option, none, some}
use mathlib.Core.List.{List}
use Rattle.std.proofs.Math.Dec.{T, eqb, eqb_refl}
use borrow.Author.Tests.{le-leb, eq-eqb, ne_eqb}
use Rattle.std.proofs.Math.ListN.{get_or-map}
use Rattle.combine.specs.Laws.Numbers.{eq-or-ne}
use Rattle.combine.specs.Below.{all_below}
use Rattle.combine.specs.Laws.Below.{all-make, or_left, or_right}
use Rattle.combine.specs.Rows.{all_of}
use Rattle.combine.specs.Laws.Same.{true_same}
use Rattle.placing.specs.Sizes.{user_of, entries, places, most_held, greatest_end}
use Rattle.placing.specs.Placing.{position}
use Rattle.rules.specs.Headings.{value, passes}
use Rattle.segments.specs.Free.{SegmentRecord, SegmentOpening}
use Rattle.segments.specs.Laws.Sound.{Tied, Placed, SoundOpen, SoundEntry, SoundHouse}
use Rattle.tables.specs.declared.Record.{Record}
use Rattle.tables.specs.declared.Opening.{Opening}
use Rattle.tables.specs.Layout.{position_number, segments_in, record_at, opening_at, closed_opening}
use Rattle.tables.specs.Fields.{is_used, value_of, number_at, record_for}
use Rattle.tables.specs.Handles.{bit, place_number}
use Rattle.tables.specs.Openings.{linkb, readb, workb, beside_recordb, pointersb, openb, closedb, openingb, openingsb}
use Rattle.cells.specs.Says.{in_places, house_of, as_record, as_opening}
use Rattle.combine.specs.Laws.Tests.{true_of, and_intro}
use Rattle.proof_requests_sound.specs.Away.{handle-at}
use Rattle.proof_cells_agree.specs.Rows.{enough, ◌also◌, row}
use Rattle.proof_cells_agree.specs.There.{record-there}
use Rattle.proof_cells_agree.specs.Files.{extent-test, list-test}
use Rattle.proof_cells_agree.specs.Canonical.{Canonical, record-determined, opening-determined}
use Rattle.proof_cells_agree.specs.RecordTests.{bit-small}

-- ---- what is written for an opening x, and for its record r

module _ (x : SegmentOpening) where
  value_written : (p : ℕ) → value_of (as_opening (some x)) p ≡ value x.handle p
  unfolding value_of as_opening
  value_written p = ap position_number (get_or-map position x.handle.pointers p 0)

  place-written : (as_opening (some x)).place ≡ place_number x.handle.place
  unfolding as_opening
  place-written = refl

  permit-written : (as_opening (some x)).permit ≡ bit x.handle.permit
  unfolding as_opening
  permit-written = refl

  read-tests : (i : ℕ) (r : SegmentRecord) → Tied false (user_of i) r x → readb i (as_opening (some x)) (as_record (some r)) ≡ true
  unfolding readb as_record as_opening
  read-tests i r k =
      row _
      (seen r.head.private k.0
      also true_same x.handle.name r.head.name k.1
      also eq-eqb x.handle.species r.head.species k.2
      also eq-eqb (value_of (as_opening (some x)) 0) r.head.begin (value_written 0 ∙ k.3)
      also eq-eqb (value_of (as_opening (some x)) 1) r.head.end (value_written 1 ∙ k.4)
      also all-make _ most_held (λ n l. eq-eqb (number_at (in_places x.content) n) (number_at (in_places r.content) n) (ap (λ (c : List ℕ). number_at (in_places c) n) k.5))
      also enough)
    where
      seen : (private : Bool) → T (not private || eqb r.head.owner (user_of i)) → (eqb (bit private) 0 || eqb r.head.owner (user_of i)) ≡ true
      seen true h = true_of (eqb r.head.owner (user_of i)) h
      seen false h = refl

  work-tests : (t : List ℕ) (i : ℕ) (r : SegmentRecord) → Tied true (user_of i) r x
      → ((j : ℕ) → j < entries → j ≢ i → (opening_at t j).place ≢ place_number x.handle.place) → workb t i (as_opening (some x)) (as_record (some r)) ≡ true
  unfolding workb as_record as_opening
  work-tests t i r k others =
      row _
      (eq-eqb r.head.owner (user_of i) k.0
      also eq-eqb r.head.species x.handle.species k.1
      also all-make _ entries (λ j l. ⊎_elim
      (λ e. or_left (eqb j i) _ (eq-eqb j i e))
      (λ d. or_right (eqb j i) _ (ap not (ne_eqb (opening_at t j).place (place_number x.handle.place) (others j l d)))) (eq-or-ne j i))
      also enough)

-- a closed entry is all zero
closed-tests : (t : List ℕ) (i : ℕ) → cond (eqb closed_opening.opened 0) (closedb closed_opening) (openb t i closed_opening) ≡ true
unfolding closedb closed_opening value_of all_below all_of
closed-tests t i = refl

place-again : (q : Option ℕ) (p : ℕ) → place_number q ≡ suc p → q ≡ some p
place-again none p e = absurd (let y : ⊥ = omega arith in y)
place-again (some q) p e = let z : q ≡ p = omega arith in ap {B = Option ℕ} some z

module _ (t : List ℕ) (canonical : Canonical t) (s : SoundHouse (house_of t)) where
  -- ---- an opening x at entry i

  module _ (i : ℕ) (x : SegmentOpening) (ix : get_or (house_of t).openings i none ≡ some x) where
    fine : SoundOpen (segments_in t) (user_of i) (house_of t).records x
    unfolding house_of
    fine = subst (λ (y : Option SegmentOpening). SoundEntry (segments_in t) (user_of i) (house_of t).records y) ix (s.openings i)

    -- "and has no other opening"
    no-other : (p : ℕ) → x.handle.place ≡ some p → T x.handle.permit → (j : ℕ) → j < entries → j ≢ i → (opening_at t j).place ≢ suc p
    unfolding as_opening closed_opening
    no-other p e w j l d q = go (get_or (house_of t).openings j none) refl
      where
        at_p : (q : Option ℕ) → q ≡ some p → T (passes (eqb p) q)
        at_p q e = subst (λ (q : Option ℕ). T (passes (eqb p) q)) (sym e) (eqb_refl p)

        go : (y : Option SegmentOpening) → get_or (house_of t).openings j none ≡ y → ⊥
        go none ey = let z : (opening_at t j).place ≡ 0 = ap (λ (o : Opening). o.place) (opening-determined t canonical j l none ey) in omega arith
        go (some y) ey =
            let z : (opening_at t j).place ≡ place_number y.handle.place = ap (λ (o : Opening). o.place) (opening-determined t canonical j l (some y) ey) in
            s.alone p i j (λ c. d (sym c))
            (rw (handle-at (house_of t).openings i, ix) (and_intro x.handle.permit (passes (eqb p) x.handle.place) w (at_p x.handle.place e)))
            (rw (handle-at (house_of t).openings j, ey) (at_p y.handle.place (place-again y.handle.place p (sym z ∙ q))))

    shares-tests : (p : ℕ) → x.handle.place ≡ some p → (r : SegmentRecord) → record_for t (as_opening (some x)) ≡ as_record (some r)
        → eqb (as_opening (some x)).place 0 ≡ false → (b : Bool) → x.handle.permit ≡ b → Tied b (user_of i) r x → beside_recordb t i (as_opening (some x)) ≡ true
    unfolding beside_recordb
    shares-tests p e r er z true eb k =
        let permit : eqb (as_opening (some x)).permit 0 ≡ false = ap (λ (k : ℕ). eqb k 0) (permit-written x ∙ ap bit eb) in
        rw (z, permit, er) (work-tests x t i r k (λ j l d q. no-other p e (rw eb tt) j l d (q ∙ ap place_number e)))
    shares-tests p e r er z false eb k =
        let permit : eqb (as_opening (some x)).permit 0 ≡ true = ap (λ (k : ℕ). eqb k 0) (permit-written x ∙ ap bit eb) in
        rw (z, permit, er) (read-tests x i r k)

    place-tests : (q : Option ℕ) → x.handle.place ≡ q → Placed (user_of i) (house_of t).records x q
        → (linkb t (as_opening (some x)) ≡ true) × (beside_recordb t i (as_opening (some x)) ≡ true) × ((as_opening (some x)).place ≤ places)
    unfolding linkb beside_recordb as_record
    place-tests none e w =
        let z : (as_opening (some x)).place ≡ 0 = place-written x ∙ ap place_number e in
        let permit : eqb (as_opening (some x)).permit 1 ≡ true = ap (λ (k : ℕ). eqb k 1) (permit-written x ∙ ap bit (true_of x.handle.permit w)) in
        (rw (eq-eqb (as_opening (some x)).place 0 z, permit), rw (eq-eqb (as_opening (some x)).place 0 z), omega arith)
    place-tests (some p) e w =
        let at : (as_opening (some x)).place ≡ suc p = place-written x ∙ ap place_number e in
        let z : eqb (as_opening (some x)).place 0 ≡ false = ne_eqb (as_opening (some x)).place 0 (λ q. omega arith) in
        let back : (as_opening (some x)).place - 1 ≡ p = omega arith in
        let below = (record-there t p w.0 w.1).below in
        let there : record_for t (as_opening (some x)) ≡ as_record (some w.0) = ap (record_at t) back ∙ record-determined t canonical p below (some w.0) w.1 in
        let used : is_used (record_for t (as_opening (some x))) ≡ true = ap (λ (r : Record). is_used r) there in
        (rw (z, used), shares-tests p e w.0 there z x.handle.permit refl w.2, omega arith)

    points-tests : pointersb (as_opening (some x)) ≡ true
    unfolding pointersb
    points-tests =
        let f = fine in
        row _
        (le-leb 1 (value_of (as_opening (some x)) 2) (rw (value_written x 2) f.works)
        also all-make _ 6 (λ k l. le-leb (value_of (as_opening (some x)) (2 + k)) greatest_end (rw (value_written x (2 + k)) (f.points (2 + k))))
        also enough)

    open-tests : openb t i (as_opening (some x)) ≡ true
    unfolding openb as_opening
    open-tests =
        let f = fine in
        let q = place-tests x.handle.place refl f.placed in
        let v = value_written x in
        row _
        (refl
        also le-leb (bit x.handle.permit) 1 (bit-small x.handle.permit)
        also q.0
        also q.1
        also f.title
        also rw (v 0, v 1) (extent-test (segments_in t) x.handle.species (value x.handle 0) (value x.handle 1) x.content f.file)
        also points-tests
        also le-leb (as_opening (some x)).place places q.2
        also rw (v 0, v 1) (list-test (segments_in t) x.handle.species (value x.handle 0) (value x.handle 1) x.content f.file)
        also enough)

  -- ---- every entry

  opening-tests : (i : ℕ) → i < entries → openingb t i ≡ true
  unfolding openingb as_opening
  opening-tests i l = go (get_or (house_of t).openings i none) refl
    where
      tests : Opening → Bool
      tests o = cond (eqb o.opened 0) (closedb o) (openb t i o)

      go : (y : Option SegmentOpening) → get_or (house_of t).openings i none ≡ y → tests (opening_at t i) ≡ true
      go none e = ap tests (opening-determined t canonical i l none e) ∙ closed-tests t i
      go (some x) e = ap tests (opening-determined t canonical i l (some x) e) ∙ open-tests i x e

  pub openings-tests : openingsb t ≡ true
  unfolding openingsb
  openings-tests = all-make (openingb t) entries opening-tests
