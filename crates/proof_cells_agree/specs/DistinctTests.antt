-- The lists in the cells t are distinct where the records and openings that the cells say are sound. Assumes nothing.
use Rattle.std.specs.Prelude.{ℕ, ◌+◌, ◌-◌, ◌≤◌, ◌<◌, ◌≡◌, refl, Bool, ◌&&◌, List, length, get_or}
use native.Mathlib.Omega.{arith}
use Rattle.std.proofs.Common.{sym, ◌∙◌, subst, lt-ltb, le-ltb, eqb-true, eq-eqb}
use Rattle.std.proofs.Math.Path.{ap}
use Rattle.std.proofs.Math.Logic.{⊎_elim}
use Rattle.std.proofs.Math.Bool.{true, cond}
use Rattle.std.proofs.Math.Option.{Option, none, some}
use Rattle.std.proofs.Math.Dec.{eqb}
use Rattle.combine.specs.Laws.Numbers.{le-or-lt}
use Rattle.combine.specs.Laws.Below.{all-make, both, split-bool}
use Rattle.combine.specs.Lists.{any, is_in}
use Rattle.placing.specs.Sizes.{places, entries, lists}
use Rattle.segments.specs.Free.{SegmentRecord, SegmentOpening, SegmentHouse, record_segments}
use Rattle.segments.specs.Laws.Sound.{SoundPlace, SoundHouse}
use Rattle.tables.specs.Layout.{record_at, opening_at, unused_record, closed_opening}
use Rattle.tables.specs.Fields.{held_by_record, held_by_opening}
use Rattle.tables.specs.Lists.{held_in, listed, stretch_in, family_of, agree, distinctb}
use Rattle.tables.specs.Laws.Lists.{Distinct}
use Rattle.cells.specs.Says.{house_of, as_record, as_opening}
use Rattle.combine.specs.Laws.Tests.{by-test}
use Rattle.combine.specs.Laws.Sums.{not-any}
use Rattle.proof_requests_sound.specs.Opened.{sound-at}
use Rattle.combine.specs.Laws.Each.{any_where}
use Rattle.proof_cells_agree.specs.Wording.{Lists, lists-where, record_stretch, opening_stretch, Apart}
use Rattle.proof_cells_agree.specs.Worded.{worded}
use Rattle.proof_cells_agree.specs.Shown.{EachRecord, EachOpening, Shown, family_for, record-shown, opening-shown, shown-agree}
use Rattle.proof_cells_agree.specs.Apart.{only_one}
use Rattle.proof_cells_agree.specs.Canonical.{Canonical, record-determined, opening-determined}

-- whose list it is
data Owner (h : SegmentHouse) : ℕ → List ℕ → ℕ → ℕ → Type 0 where
  of-record : (p : ℕ) (r : SegmentRecord) → get_or h.records p none ≡ some r → Owner h p r.content (record_stretch r) p
  of-opening : (i : ℕ) (x : SegmentOpening) → get_or h.openings i none ≡ some x → Owner h (places + i) x.content (opening_stretch x) (family_for i x.handle.place)

module _ (h : SegmentHouse) (a : Apart h) where
  -- two openings
  both-open : (g i l j k : ℕ) (x y : SegmentOpening) → get_or h.openings i none ≡ some x → get_or h.openings l none ≡ some y
      → Lists x.content j g → Lists y.content k g
      → (family_for i x.handle.place ≡ family_for l y.handle.place) × (opening_stretch x + j ≡ opening_stretch y + k)
  both-open g i l j k x y ex ey lj lk = by-test (any listing h.records)
      (λ t.
      let w = any_where listing h.records none t in
      filed w.0 (get_or h.records w.0 none) refl (lists-where g (record_segments (get_or h.records w.0 none)) w.1))
      (λ n.
      let w = a.openings g i l j k x y ex ey lj lk (λ p. not-any listing h.records p none tt n) in
      let e : x ≡ y = only_one h.openings i l x y w.0 ex ey in
      (λ c. family_for (w.0 c) (e c).handle.place, λ c. opening_stretch (e c) + w.1 c))
    where
      listing : Option SegmentRecord → Bool
      listing r = is_in g (record_segments r)

      -- a record lists it too
      filed : (p : ℕ) (y' : Option SegmentRecord) → get_or h.records p none ≡ y' → ((m : ℕ) × Lists (record_segments y') m g)
          → (family_for i x.handle.place ≡ family_for l y.handle.place) × (opening_stretch x + j ≡ opening_stretch y + k)
      filed p none e w = absurd (let z = w.1.0 in let y : ⊥ = omega arith in y)
      filed p (some r) e w =
          let u = a.mixed g p i w.0 j r x e ex w.1 lj in
          let v = a.mixed g p l w.0 k r y e ey w.1 lk in
          (ap (family_for i) u.0 ∙ sym (ap (family_for l) v.0), u.1 ∙ sym v.1)

  owners-apart : {n m : ℕ} {c c' : List ℕ} {first first' family family' : ℕ} → Owner h n c first family → Owner h m c' first' family'
      → (g j k : ℕ) → Lists c j g → Lists c' k g → (family ≡ family') × (first + j ≡ first' + k)
  owners-apart (of-record p r er) (of-record q r' er') g j k lj lk =
      let w = a.records g p q j k r r' er er' lj lk in
      let e : r ≡ r' = only_one h.records p q r r' w.0 er er' in
      (w.0, λ c. record_stretch (e c) + w.1 c)
  owners-apart (of-record p r er) (of-opening i x ex) g j k lj lk = let w = a.mixed g p i j k r x er ex lj lk in (sym (ap (family_for i) w.0), sym w.1)
  owners-apart (of-opening i x ex) (of-record p r er) g j k lj lk = let w = a.mixed g p i k j r x er ex lk lj in (ap (family_for i) w.0, w.1)
  owners-apart (of-opening i x ex) (of-opening l y ey) g j k lj lk = both-open g i l j k x y ex ey lj lk

module _ (t : List ℕ) (canonical : Canonical t) (s : SoundHouse (house_of t)) where
  each-held : EachRecord (house_of t)
  each-held p r e = let f : SoundPlace (house_of t).segments (some r) = rw e at (s.records p) in f.file.each

  opening-held : EachOpening (house_of t)
  opening-held i x e = (sound-at (house_of t) s i x e).file.each

  -- ---- a list that has a number is somebody's

  record Listing (n : ℕ) : Type 0 where
    numbers : List ℕ
    first : ℕ
    family : ℕ
    owner : Owner (house_of t) n numbers first family
    shown : Shown t n numbers first family

  record-listing : (p : ℕ) → p < places → (y : Option SegmentRecord) → get_or (house_of t).records p none ≡ y → 0 < held_in t p → Listing p
  unfolding held_in held_by_record as_record unused_record
  record-listing p l none e lj =
      let z : held_by_record (record_at t p) ≡ 0 = ap held_by_record (record-determined t canonical p l none e) in
      absurd (let k = rw (lt-ltb p places l, z) at lj in let y : ⊥ = omega arith in y)
  record-listing p l (some r) e lj = record {
    numbers = r.content;
    first = record_stretch r;
    family = p;
    owner = of-record p r e;
    shown = record-shown t each-held p r e;
  }

  opening-listing : (i : ℕ) → i < entries → (y : Option SegmentOpening) → get_or (house_of t).openings i none ≡ y → 0 < held_in t (places + i) → Listing (places + i)
  unfolding held_in held_by_opening as_opening closed_opening
  opening-listing i l none e lj =
      let z : held_by_opening (opening_at t i) ≡ 0 = ap held_by_opening (opening-determined t canonical i l none e) in
      let d : places + i - 64 ≡ i = omega arith in
      absurd (let k = rw (le-ltb (places + i) places (omega arith), d, z) at lj in let y : ⊥ = omega arith in y)
  opening-listing i l (some x) e lj = record {
    numbers = x.content;
    first = opening_stretch x;
    family = family_for i x.handle.place;
    owner = of-opening i x e;
    shown = opening-shown t opening-held i x e;
  }

  listing : (n : ℕ) → n < lists → 0 < held_in t n → Listing n
  listing n l lj = ⊎_elim
      (λ (c : places ≤ n).
      let d : places + (n - places) ≡ n = omega arith in
      subst Listing d (opening-listing (n - places) (omega arith) (get_or (house_of t).openings (n - places) none) refl (subst (λ (k : ℕ). 0 < held_in t k) (sym d) lj)))
      (λ (c : n < places). record-listing n c (get_or (house_of t).records n none) refl lj) (le-or-lt places n)

  distinct : Distinct t lists
  distinct n j m k ln lj lm lk e =
      let a = listing n ln (omega arith) in
      let b = listing m lm (omega arith) in
      let ja : j < length a.numbers = omega (arith, a.shown.held, lj) in
      let kb : k < length b.numbers = omega (arith, b.shown.held, lk) in
      shown-agree t a.shown b.shown j k
      (owners-apart (house_of t) (worded (house_of t) s) a.owner b.owner (listed t m k) j k (ja, sym (a.shown.each j ja) ∙ e) (kb, sym (b.shown.each k kb)))

  pub distinct-tests : distinctb t lists ≡ true
  unfolding distinctb agree
  distinct-tests = all-make _ lists (λ n ln. all-make _ (held_in t n) (λ j lj. all-make _ lists (λ m lm. all-make _ (held_in t m) (λ k lk. at_pair n j m k ln lj lm lk))))
    where
      at_pair : (n j m k : ℕ) → n < lists → j < held_in t n → m < lists → k < held_in t m
          → cond (eqb (listed t n j) (listed t m k)) (eqb (family_of t n) (family_of t m) && eqb (stretch_in t n j) (stretch_in t m k)) true ≡ true
      at_pair n j m k ln lj lm lk = ⊎_elim
          (λ e.
          let w = distinct n j m k ln lj lm lk (eqb-true (listed t n j) (listed t m k) e) in
          rw e (both (eq-eqb (family_of t n) (family_of t m) w.0) (eq-eqb (stretch_in t n j) (stretch_in t m k) w.1)))
          (λ e. rw e) (split-bool (eqb (listed t n j) (listed t m k)))
