-- The lists of segment numbers in the cells t are those of the records and openings that the cells say. Assumes nothing.
use Rattle.std.specs.Prelude.{ℕ, ◌+◌, ◌-◌, ◌<◌, ◌≡◌, refl, Bool, true, false, cond, List, eqb, length, get_or}
use native.Mathlib.Omega.{arith}
use Rattle.std.proofs.Common.{sym, ap, ◌∙◌, subst}
use Rattle.std.proofs.Math.Option.{Option, none, some}
use borrow.Author.Tests.{lt-ltb, le-ltb}
use Rattle.placing.specs.Sizes.{places}
use Rattle.placing.specs.Placing.{stretch_of, held_of}
use Rattle.rules.specs.Headings.{holds}
use Rattle.segments.specs.Free.{SegmentRecord, SegmentOpening, SegmentHouse}
use Rattle.tables.specs.declared.Opening.{Opening}
use Rattle.tables.specs.Layout.{record_at, opening_at}
use Rattle.tables.specs.Fields.{value_of, held_by_record, held_by_opening}
use Rattle.tables.specs.Handles.{place_of, handle_in}
use Rattle.tables.specs.Lists.{held_in, listed, stretch_in, family_of}
use Rattle.tables.specs.Laws.Lists.{Distinct}
use Rattle.cells.specs.Says.{record_in, opening_in, house_of}
use Rattle.proof_cells_agree.specs.Wording.{Lists, record_stretch, opening_stretch}
use Rattle.proof_cells_agree.specs.There.{held-used, held-open, value-said, record-there, opening-there}
use Rattle.proof_cells_agree.specs.Files.{number-held}

-- "A file holds one segment for each stretch with at least one of its positions, and no other"
abbrev pub EachRecord : SegmentHouse → Type 0
EachRecord h = (p : ℕ) (r : SegmentRecord) → get_or h.records p none ≡ some r → length r.content ≡ held_of r.head.species r.head.begin r.head.end

abbrev pub EachOpening : SegmentHouse → Type 0
EachOpening h = (i : ℕ) (x : SegmentOpening) → get_or h.openings i none ≡ some x → length x.content ≡ holds x.handle

-- list n of the cells t: its numbers, its first stretch, and whose file it is
pub record Shown (t : List ℕ) (n : ℕ) (l : List ℕ) (first family : ℕ) : Type 0 where
  pub held : held_in t n ≡ length l
  pub each : (k : ℕ) → k < length l → listed t n k ≡ get_or l k 0
  pub stretch : (k : ℕ) → stretch_in t n k ≡ first + k
  pub whose : family_of t n ≡ family

-- "but for a record and its openings": an opening's list belongs to its record's place, or to itself alone
abbrev pub family_for : ℕ → Option ℕ → ℕ
family_for i none = places + i
family_for i (some p) = p

module _ (t : List ℕ) where
  own-record-shown : (p : ℕ) → p < places → held_by_record (record_at t p) ≡ length (record_in (record_at t p)).content
      → Shown t p (record_in (record_at t p)).content (record_stretch (record_in (record_at t p))) p
  unfolding held_in listed stretch_in family_of
  own-record-shown p below held =
      let b = lt-ltb p places below in
      let r = record_at t p in
      record {
        held = rw b held;
        each = λ k h. rw b (sym (number-held r.segments (held_by_record r) k (omega (arith, held, h))));
        stretch = λ k. rw b;
        whose = rw b;
      }

  pub record-shown : EachRecord (house_of t) → (p : ℕ) (r : SegmentRecord) → get_or (house_of t).records p none ≡ some r → Shown t p r.content (record_stretch r) p
  record-shown each p r e =
      let there = record-there t p r e in
      subst (λ (q : SegmentRecord). length q.content ≡ held_of q.head.species q.head.begin q.head.end → Shown t p q.content (record_stretch q) p)
      there.same (λ l. own-record-shown p there.below (held-used (record_at t p) there.used ∙ sym l)) (each p r e)

  family-said : (i n : ℕ) → cond (eqb n 0) (places + i) (n - 1) ≡ family_for i (place_of n)
  family-said i n = go (eqb n 0)
    where
      go : (b : Bool) → cond b (places + i) (n - 1) ≡ family_for i (cond b none (some (n - 1)))
      go true = refl
      go false = refl

  own-opening-shown : (i : ℕ) → held_by_opening (opening_at t i) ≡ length (opening_in (opening_at t i)).content
      → Shown t (places + i) (opening_in (opening_at t i)).content (opening_stretch (opening_in (opening_at t i))) (family_for i (opening_in (opening_at t i)).handle.place)
  unfolding held_in listed stretch_in family_of
  own-opening-shown i held =
      let b = le-ltb (places + i) places (omega arith) in
      let e : places + i - 64 ≡ i = omega arith in
      let o = opening_at t i in
      record {
        held = rw (b, e) held;
        each = λ k h. rw (b, e) (sym (number-held o.segments (held_by_opening o) k (omega (arith, held, h))));
        stretch = λ k. rw (b, e) (ap (λ (v : ℕ). stretch_of o.species v + k) (sym (value-said o 0)));
        whose = rw (b, e) (family-said i o.place);
      }

  pub opening-shown : EachOpening (house_of t) → (i : ℕ) (x : SegmentOpening) → get_or (house_of t).openings i none ≡ some x
      → Shown t (places + i) x.content (opening_stretch x) (family_for i x.handle.place)
  opening-shown each i x e =
      let there = opening-there t i x e in
      subst (λ (y : SegmentOpening). length y.content ≡ holds y.handle → Shown t (places + i) y.content (opening_stretch y) (family_for i y.handle.place))
      there.same (λ l. own-opening-shown i (held-open (opening_at t i) there.opened ∙ sym (l ∙ holds-said (opening_at t i)))) (each i x e)
    where
      holds-said : (o : Opening) → holds (handle_in o) ≡ held_of o.species (value_of o 0) (value_of o 1)
      holds-said o = λ k. held_of o.species (value-said o 0 k) (value-said o 1 k)

  module _ {n m : ℕ} {l l' : List ℕ} {first first' family family' : ℕ} (s : Shown t n l first family) (s' : Shown t m l' first' family') where
    -- what is distinct in the cells is apart
    pub shown-apart : (count : ℕ) → Distinct t count → n < count → m < count → (g j k : ℕ) → Lists l j g → Lists l' k g → (family ≡ family') × (first + j ≡ first' + k)
    shown-apart count d ln lm g j k lj lk =
        let w = d n j m k ln (omega (arith, lj.0, s.held)) lm (omega (arith, lk.0, s'.held)) (s.each j lj.0 ∙ lj.1 ∙ sym (s'.each k lk.0 ∙ lk.1)) in
        (sym s.whose ∙ w.0 ∙ s'.whose, sym (s.stretch j) ∙ w.1 ∙ s'.stretch k)

    -- and back: one number at place j of the one list and place k of the other, of one family and at one stretch
    pub shown-agree : (j k : ℕ) → (family ≡ family') × (first + j ≡ first' + k) → (family_of t n ≡ family_of t m) × (stretch_in t n j ≡ stretch_in t m k)
    shown-agree j k w = (s.whose ∙ w.0 ∙ sym s'.whose, s.stretch j ∙ w.1 ∙ sym (s'.stretch k))
