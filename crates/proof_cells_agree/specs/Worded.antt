-- Where each segment is listed at most once, by counting, document 01's words hold. Assumes nothing.
use Rattle.std.specs.Prelude.{ℕ, ◌+◌, ◌≤◌, ◌≡◌, refl, Bool, true, false, not, cond, List, T, get_or}
use Rattle.std.proofs.Common.{arith, sym, ap, ap₂, ◌∙◌, subst, T_not}
use Rattle.std.proofs.Math.Decide.{ℕ_discrete}
use Rattle.std.proofs.Math.Option.{Option, none, some}
use Rattle.combine.specs.Lists.{is_in}
use Rattle.placing.specs.Sizes.{user_of}
use Rattle.placing.specs.Placing.{stretch_of}
use Rattle.rules.specs.Headings.{value}
use Rattle.segments.specs.Free.{SegmentRecord, SegmentOpening, SegmentHouse, record_segments, opening_segments, place_segments}
use Rattle.segments.specs.Laws.Sound.{times, times_in_record, times_in_opening, OneStretch, Tied, Placed, SoundHouse}
use Rattle.combine.specs.Laws.Tests.{by-test, false_of}
use Rattle.combine.specs.Laws.Sums.{total-at, total-two}
use Rattle.proof_requests_sound.specs.Counts.{times-some, times-at, times-two, in-at, own-opening}
use Rattle.proof_requests_sound.specs.Opened.{sound-at}
use Rattle.proof_cells_agree.specs.Wording.{Lists, opening_stretch, record_stretch, Apart}

module _ (h : SegmentHouse) (s : SoundHouse h) where
  abbrev record_at : ℕ → Option SegmentRecord
  record_at p = get_or h.records p none

  abbrev opening_at : ℕ → Option SegmentOpening
  opening_at i = get_or h.openings i none

  one-record : (g p q j k : ℕ) (r r' : SegmentRecord) → record_at p ≡ some r → record_at q ≡ some r' → Lists r.content j g → Lists r'.content k g → (p ≡ q) × (j ≡ k)
  one-record g p q j k r r' er er' lj lk = go (ℕ_discrete p q)
    where
      at_p : times_in_record g (record_at p) ≡ times g r.content
      at_p = ap (times_in_record g) er

      at-q : times_in_record g (record_at q) ≡ times g r'.content
      at-q = ap (times_in_record g) er'

      go : Dec (p ≡ q) → (p ≡ q) × (j ≡ k)
      go (no d) = absurd (omega (
        arith,
        at_p,
        at-q,
        times-at g r.content j lj.0 lj.1,
        times-at g r'.content k lk.0 lk.1,
        total-two (times_in_record g) h.records p q none refl d,
        s.once g,
      ))
      go (yes e) = (e, here (ℕ_discrete j k))
        where
          same-list : r.content ≡ r'.content
          same-list = ap record_segments (sym er ∙ ap record_at e ∙ er')

          here : Dec (j ≡ k) → j ≡ k
          here (yes q) = q
          here (no d) = absurd (omega (
            arith,
            at_p,
            times-two g r.content j k lj.0 (rw same-list lk.0) d lj.1 (rw same-list lk.1),
            total-at (times_in_record g) h.records p none refl,
            s.once g,
          ))

  of-place : (g p i j k : ℕ) (r : SegmentRecord) (x : SegmentOpening) → record_at p ≡ some r → opening_at i ≡ some x → Lists r.content j g → Lists x.content k g
      → x.handle.place ≡ some p
  of-place g p i j k r x er ex lj lk = go x.handle.place refl
    where
      at_p : times_in_record g (record_at p) ≡ times g r.content
      at_p = ap (times_in_record g) er

      own : (q : Option ℕ) → x.handle.place ≡ q → T (not (is_in g (place_segments h.records q))) → ⊥
      own q e n =
          let c : times_in_opening h.records g (opening_at i) ≡ times g x.content =
          ap (times_in_opening h.records g) ex
          ∙ ap (λ (b : Bool). cond b 0 (times g x.content)) (ap (λ (a : Option ℕ). is_in g (place_segments h.records a)) e ∙ false_of _ n) in
          omega (
            arith,
            at_p,
            c,
            times-at g r.content j lj.0 lj.1,
            times-at g x.content k lk.0 lk.1,
            total-at (times_in_record g) h.records p none refl,
            total-at (times_in_opening h.records g) h.openings i none refl,
            s.once g,
          )

      other : (q : ℕ) → x.handle.place ≡ some q → Dec (q ≡ p) → x.handle.place ≡ some p
      other q e (yes w) = e ∙ ap {B = Option ℕ} some w
      other q e (no d) = by-test (is_in g (record_segments (record_at q)))
          (λ t. absurd (omega (
            arith,
            at_p,
            times-at g r.content j lj.0 lj.1,
            times-some g (record_segments (record_at q)) t,
            total-two (times_in_record g) h.records q p none refl d,
            s.once g,
          )))
          (λ t. absurd (own (some q) e t))

      go : (q : Option ℕ) → x.handle.place ≡ q → x.handle.place ≡ some p
      go none e = absurd (own none e tt)
      go (some q) e = other q e (ℕ_discrete q p)

  one-stretch : (g p i j k : ℕ) (r : SegmentRecord) (x : SegmentOpening) → record_at p ≡ some r → opening_at i ≡ some x → Lists r.content j g → Lists x.content k g
      → x.handle.place ≡ some p → opening_stretch x + k ≡ record_stretch r + j
  one-stretch g p i j k r x er ex lj lk ep = go x.handle.permit pl.2
    where
      pl : Placed (user_of i) h.records x (some p)
      pl = subst (λ (q : Option ℕ). Placed (user_of i) h.records x q) ep (sound-at h s i x ex).placed

      some_same : {a b : SegmentRecord} → some a ≡ some b → a ≡ b
      some_same q = cc

      er' : pl.0 ≡ r
      er' = some_same (sym pl.1 ∙ er)

      go : (b : Bool) → Tied b (user_of i) pl.0 x → opening_stretch x + k ≡ record_stretch r + j
      go true w = subst (λ (q : SegmentRecord). OneStretch q x) er' w.2 k j lk.0 lj.0 (lk.1 ∙ sym lj.1)
      go false w =
          let es : x.handle.species ≡ r.head.species = w.2 ∙ ap (λ (q : SegmentRecord). q.head.species) er' in
          let eb : value x.handle 0 ≡ r.head.begin = w.3 ∙ ap (λ (q : SegmentRecord). q.head.begin) er' in
          let ec : x.content ≡ r.content = w.5 ∙ ap (λ (q : SegmentRecord). q.content) er' in
          let ek : k ≡ j = (one-record g p p k j r r er er (subst (λ (l : List ℕ). Lists l k g) ec lk) lj).1 in
          ap₂ (λ (a b : ℕ). a + b) (ap₂ stretch_of es eb) ek

  one-opening : (g i l j k : ℕ) (x y : SegmentOpening) → opening_at i ≡ some x → opening_at l ≡ some y → Lists x.content j g → Lists y.content k g
      → ((p : ℕ) → T (not (is_in g (record_segments (record_at p))))) → (i ≡ l) × (j ≡ k)
  one-opening g i l j k x y ex ey lj lk n = go (ℕ_discrete l i)
    where
      nowhere : (q : Option ℕ) → T (not (is_in g (place_segments h.records q)))
      nowhere none = tt
      nowhere (some p) = n p

      c : times_in_opening h.records g (opening_at i) ≡ times g x.content
      c = ap (times_in_opening h.records g) ex
          ∙ ap (λ (b : Bool). cond b 0 (times g x.content)) (false_of (is_in g (place_segments h.records x.handle.place)) (nowhere x.handle.place))

      own : 1 ≤ times_in_opening h.records g (opening_at i)
      own = rw c (times-at g x.content j lj.0 lj.1)

      go : Dec (l ≡ i) → (i ≡ l) × (j ≡ k)
      go (no d) =
          let away : T (not (is_in g y.content)) = subst (λ (a : Option SegmentOpening). T (not (is_in g (opening_segments a)))) ey (own-opening h s.once i g own l d) in
          absurd (T_not (is_in g y.content) away (in-at g y.content k lk.0 lk.1))
      go (yes e) = (sym e, here (ℕ_discrete j k))
        where
          same-list : x.content ≡ y.content
          same-list = ap opening_segments (sym ex ∙ ap opening_at (sym e) ∙ ey)

          here : Dec (j ≡ k) → j ≡ k
          here (yes q) = q
          here (no d) = absurd (omega (
            arith,
            c,
            times-two g x.content j k lj.0 (rw same-list lk.0) d lj.1 (rw same-list lk.1),
            total-at (times_in_opening h.records g) h.openings i none refl,
            s.once g,
          ))

  pub worded : Apart h
  worded = record {
    records = one-record;
    mixed = λ g p i j k r x er ex lj lk. let e = of-place g p i j k r x er ex lj lk in (e, one-stretch g p i j k r x er ex lj lk e);
    openings = one-opening;
  }
