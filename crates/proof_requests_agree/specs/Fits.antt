-- What a request writes into sound tables has the lengths of their files: the effects that a rule gives fit. Assumes nothing.
use Rattle.std.specs.Prelude.{ℕ, ◌≤◌, ◌<◌, ◌≡◌, refl, List, map, get_or, set}
use Rattle.std.proofs.Common.{arith, ap, ◌∙◌, subst, get_or-set_same}
use Rattle.std.proofs.Math.Option.{Option, none, some}
use Rattle.std.proofs.lemmas.List.{length-map}
use Rattle.combine.specs.Verdict.{Verdict, refused, done}
use Rattle.placing.specs.Sizes.{greatest_user, greatest_entry, entry_of, user_of, places, entries}
use Rattle.rules.specs.Calls.{Request}
use Rattle.rules.specs.Headings.{Heading, filing, head_of}
use Rattle.rules.specs.Effects.{Effect}
use Rattle.rules.specs.House.{house, refiled, changed}
use Rattle.rules.specs.Levels.{perform, ruled, or_blank}
use Rattle.segments.specs.Free.{SegmentRecord, SegmentOpening, SegmentHouse}
use Rattle.segments.specs.Deeds.{segment_level}
use Rattle.segments.specs.Laws.Sound.{Placed, SoundFiled, SoundPlace, SoundEntry, SoundHouse}
use Rattle.cells.specs.Says.{house_of}
use Rattle.cells.specs.Laws.Written.{FitsRecord, FitsEntry, FitsFiling}
use Rattle.cells.specs.Laws.Lowered.{Fits, AllFit}
use Rattle.combine.specs.Laws.Replaced.{place-below}
use Rattle.proof_requests_sound.specs.Allowed.{PlaceOf, Filing, a-new, an-old, an-end, a-freeing, a-filing, a-use}
use Rattle.proof_requests_sound.specs.Opened.{sound-at}
use Rattle.proof_requests_sound.specs.Requests.{AllowedAt, effect-allowed, effect-keeps-sound}

-- ---- what is sound has the lengths

filed-fits : (n : ℕ) (r : SegmentRecord) → SoundFiled n r → FitsRecord r
filed-fits n r f = record { name12 = f.twelve; each = f.file.each; few = omega (arith, f.file.each, f.file.few) }

entry-fits : (n u : ℕ) (rs : List (Option SegmentRecord)) (x : Option SegmentOpening) → SoundEntry n u rs x → FitsEntry x
entry-fits n u rs none f = tt
entry-fits n u rs (some x) f = record { pointers8 = f.eight; name12 = f.twelve; each = f.file.each; few = omega (arith, f.file.each, f.file.few) }

-- ---- the place of a record that changes

module _ (h : SegmentHouse) (s : SoundHouse h) where
  place_in : (i : ℕ) (x : SegmentOpening) → get_or h.openings i none ≡ some x → (p : ℕ) → x.handle.place ≡ some p → p < places
  place_in i x ix p e =
      let w = subst (λ (q : Option ℕ). Placed (user_of i) h.records x q) e (sound-at h s i x ix).placed in
      omega (arith, place-below h.records p w.0 w.1, s.places)

  filing-in : (u i p : ℕ) (x : SegmentOpening) (r : Heading) → get_or h.openings i none ≡ some x → Filing u (map head_of h.records) x.handle p r → p < places
  filing-in u i p x r ix k = go x.handle.place refl k.place
    where
      go : (q : Option ℕ) → x.handle.place ≡ q → PlaceOf (map head_of h.records) q p → p < places
      go none e w = omega (arith, w.0, length-map h.records head_of, s.places)
      go (some q) e w = place_in i x ix p (e ∙ ap {B = Option ℕ} some w)

-- ---- effects

module _ (s t : List ℕ) (sound : SoundHouse (house_of t)) where
  abbrev h : SegmentHouse
  h = house_of t

  record-fits : (i p : ℕ) (r : SegmentRecord) (x : Option SegmentOpening) → p < places
      → SoundHouse (house h.segments (set h.records p (some r)) (set h.openings i x)) → FitsRecord r
  record-fits i p r x l after =
      let e : get_or (set h.records p (some r)) p none ≡ some r = get_or-set_same h.records p (some r) none (omega (arith, sound.places)) in
      filed-fits h.segments r (subst (λ (y : Option SegmentRecord). SoundPlace h.segments y) e (after.records p))

  filing-fits : (u i : ℕ) (x : Option SegmentOpening) → get_or h.openings i none ≡ x → (f : Effect) → AllowedAt u h s x f
      → SoundHouse (changed h i (perform (segment_level s) h (or_blank (segment_level s) x) f)) → FitsFiling (perform (segment_level s) h (or_blank (segment_level s) x) f).filing
  filing-fits u i none ix f (a-new k l) after = tt
  filing-fits u i none ix f (an-old p n o) after = tt
  filing-fits u i (some x) ix f an-end after = tt
  filing-fits u i (some x) ix f (a-freeing p q w) after = (place_in h sound i x ix p q, tt)
  filing-fits u i (some x) ix f (a-filing p r k) after =
      let l = filing-in h sound u i p x r ix k in
      (l, record-fits i p (filing r x.content) none l after)
  filing-fits u i (some x) ix f (a-use w k) after = tt

  module _ (r : Request) (u e : ℕ) (hu : u ≤ greatest_user) (he : e ≤ greatest_entry) where
    abbrev x : Option SegmentOpening
    x = get_or h.openings (entry_of u e) none

    effect-fits : (f : Effect) → ruled (segment_level s) r u h x ≡ done f → Fits s t (or_blank (segment_level s) x) f
    effect-fits f q =
        let i = entry_of u e in
        let after = effect-keeps-sound s r u e h sound hu he f q in
        let c = perform (segment_level s) h (or_blank (segment_level s) x) f in
        let rs = refiled h.records c.filing in
        let there : get_or (set h.openings i c.entry) i none ≡ c.entry = get_or-set_same h.openings i c.entry none (omega (arith, sound.entries)) in
        record {
          filing = filing-fits u i x refl f (effect-allowed s r u h x f q) after;
          entry = entry-fits h.segments (user_of i) rs c.entry (subst (λ (y : Option SegmentOpening). SoundEntry h.segments (user_of i) rs y) there (after.openings i));
        }

    pub all_fit : AllFit s t (or_blank (segment_level s) x) (ruled (segment_level s) r u h x)
    all_fit = go (ruled (segment_level s) r u h x) refl
      where
        go : (v : Verdict Effect) → ruled (segment_level s) r u h x ≡ v → AllFit s t (or_blank (segment_level s) x) v
        go (refused n) q = tt
        go (done f) q = effect-fits f q
