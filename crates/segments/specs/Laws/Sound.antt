-- "Sound tables", over records and openings with lists of segment numbers: what the cells of sound tables say. Assumes nothing.
use Rattle.std.specs.Prelude.{ℕ, ◌+◌, ◌≤◌, ◌<◌, ◌≡◌, ◌≢◌, Bool, true, false, not, ◌||◌, cond, List, map, T, eqb, length, get_or}
use Rattle.std.proofs.Math.Option.{Option, none, some}
use Rattle.combine.specs.Lists.{total, is_in}
use Rattle.names.specs.Names.{nameb, opening_nameb}
use Rattle.placing.specs.Sizes.{greatest_user, entries, user_of, places, most_segments, most_held, greatest_end, greatest_species}
use Rattle.placing.specs.Placing.{stretch_of, held_of}
use Rattle.rules.specs.Headings.{Handle, head_of, handle_of, value, passes}
use Rattle.rules.specs.Rules.{is_own, is_public}
use Rattle.rules.specs.House.{opens_place, works_place}
use Rattle.segments.specs.Free.{SegmentRecord, SegmentOpening, SegmentHouse, record_segments, place_segments}

-- ---- how often a segment is listed: in records, and in openings but for their record's

abbrev pub times : ℕ → List ℕ → ℕ
times g l = total (λ x. cond (eqb g x) 1 0) l

abbrev pub times_in_record : ℕ → Option SegmentRecord → ℕ
times_in_record g r = times g (record_segments r)

abbrev pub times_but : ℕ → List ℕ → List ℕ → ℕ
times_but g but l = cond (is_in g but) 0 (times g l)

abbrev pub times_in_opening : List (Option SegmentRecord) → ℕ → Option SegmentOpening → ℕ
times_in_opening rs g none = 0
times_in_opening rs g (some x) = times_but g (place_segments rs x.handle.place) x.content

abbrev pub mentions : SegmentHouse → ℕ → ℕ
mentions h g = total (times_in_record g) h.records + total (times_in_opening h.records g) h.openings

-- ---- files; n is the number of segments

-- "species 0 to 5; 1 <= begin <= end; at most 32 segments held; segment numbers in range"; "A file holds one segment for each stretch with at
-- least one of its positions, and no other"
pub record SoundFile (n s b e : ℕ) (l : List ℕ) : Type 0 where
  pub species : s ≤ greatest_species
  pub first : 1 ≤ b
  pub order : b ≤ e
  pub last : e ≤ greatest_end
  pub few : held_of s b e ≤ most_held
  pub each : length l ≡ held_of s b e
  pub range : (k : ℕ) → k < length l → get_or l k 0 < n

pub record SoundFiled (n : ℕ) (r : SegmentRecord) : Type 0 where
  pub file : SoundFile n r.head.species r.head.begin r.head.end r.content
  pub owned : r.head.owner ≤ greatest_user
  pub twelve : length r.head.name ≡ 12
  pub name : nameb r.head.name ≡ true

abbrev pub SoundPlace : ℕ → Option SegmentRecord → Type 0
SoundPlace n none = Unit {0}
SoundPlace n (some r) = SoundFiled n r

-- ---- openings; u is the user, rs the records

-- "but for a record and its openings at one stretch"
abbrev pub OneStretch : SegmentRecord → SegmentOpening → Type 0
OneStretch r x =
    (j k : ℕ) → j < length x.content → k < length r.content → get_or x.content j 0 ≡ get_or r.content k 0
    → stretch_of x.handle.species (value x.handle 0) + j ≡ stretch_of r.head.species r.head.begin + k

-- "a work opening's record is its user's own, of the same species"; "a read opening's record is public or its user's own, and the opening has
-- that record's name, species, begin, end and segments"
abbrev pub Tied : Bool → ℕ → SegmentRecord → SegmentOpening → Type 0
Tied true u r x = (r.head.owner ≡ u) × (r.head.species ≡ x.handle.species) × OneStretch r x
Tied false u r x =
    T (not r.head.private || eqb r.head.owner u) × (x.handle.name ≡ r.head.name) × (x.handle.species ≡ r.head.species)
    × (value x.handle 0 ≡ r.head.begin) × (value x.handle 1 ≡ r.head.end) × (x.content ≡ r.content)

-- "each opening names one existing record, or none and then has the work permit"
abbrev pub Placed : ℕ → List (Option SegmentRecord) → SegmentOpening → Option ℕ → Type 0
Placed u rs x none = T x.handle.permit
Placed u rs x (some p) = (r : SegmentRecord) × (get_or rs p none ≡ some r) × Tied x.handle.permit u r x

pub record SoundOpen (n u : ℕ) (rs : List (Option SegmentRecord)) (x : SegmentOpening) : Type 0 where
  pub file : SoundFile n x.handle.species (value x.handle 0) (value x.handle 1) x.content
  pub eight : length x.handle.pointers ≡ 8
  pub works : 1 ≤ value x.handle 2
  pub points : (p : ℕ) → value x.handle p ≤ greatest_end
  pub twelve : length x.handle.name ≡ 12
  pub title : opening_nameb x.handle.name ≡ true
  pub placed : Placed u rs x x.handle.place

abbrev pub SoundEntry : ℕ → ℕ → List (Option SegmentRecord) → Option SegmentOpening → Type 0
SoundEntry n u rs none = Unit {0}
SoundEntry n u rs (some x) = SoundOpen n u rs x

-- ---- the house

-- at most one place passes the test
abbrev pub Single : {A : Type 0} → (Option A → Bool) → List (Option A) → Type 0
Single f l = (i j : ℕ) → i ≢ j → T (f (get_or l i none)) → T (f (get_or l j none)) → ⊥

-- "and has no other opening"
abbrev pub Alone : List (Option Handle) → Type 0
Alone l = (p i j : ℕ) → i ≢ j → T (passes (works_place p) (get_or l i none)) → T (passes (opens_place p) (get_or l j none)) → ⊥

pub record SoundHouse (h : SegmentHouse) : Type 0 where
  pub least : 1 ≤ h.segments
  pub most : h.segments ≤ most_segments
  pub places : length h.records ≡ places
  pub entries : length h.openings ≡ entries
  -- "segments in all lists are distinct, but for a record and its openings at one stretch"
  pub once : (g : ℕ) → mentions h g ≤ 1
  pub records : (p : ℕ) → SoundPlace h.segments (get_or h.records p none)
  pub openings : (i : ℕ) → SoundEntry h.segments (user_of i) h.records (get_or h.openings i none)
  pub alone : Alone (map handle_of h.openings)
  -- "No two records of one owner have one name; no two public records have one name."
  pub own : (u : ℕ) (n : List ℕ) → Single (passes (is_own u n)) (map head_of h.records)
  pub public : (n : List ℕ) → Single (passes (is_public n)) (map head_of h.records)
