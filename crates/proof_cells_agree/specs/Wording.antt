-- "segments in all lists are distinct, but for a record and its openings at one stretch", in these words. Assumes nothing.
use Rattle.std.specs.Prelude.{ℕ, ◌+◌, ◌<◌, ◌≡◌, not, List, T, length, get_or}
use Rattle.std.proofs.Math.Option.{none, some}
use Rattle.combine.specs.Lists.{is_in}
use Rattle.placing.specs.Placing.{stretch_of}
use Rattle.rules.specs.Headings.{value}
use Rattle.segments.specs.Free.{SegmentRecord, SegmentOpening, SegmentHouse, record_segments}
use Rattle.proof_requests_sound.specs.Counts.{in-where}

-- the list has the segment g at its place j
abbrev pub Lists : List ℕ → ℕ → ℕ → Type 0
Lists l j g = (j < length l) × (get_or l j 0 ≡ g)

pub lists-where : (g : ℕ) (l : List ℕ) → T (is_in g l) → (k : ℕ) × Lists l k g
lists-where g l t = let w = in-where g l t in (w.0, (w.1, w.2))

-- the first stretch of a record, and of an opening
abbrev pub record_stretch : SegmentRecord → ℕ
record_stretch r = stretch_of r.head.species r.head.begin

abbrev pub opening_stretch : SegmentOpening → ℕ
opening_stretch x = stretch_of x.handle.species (value x.handle 0)

-- two records, or one at two stretches, list no segment in common
abbrev pub RecordsApart : SegmentHouse → Type 0
RecordsApart h =
    (g p q j k : ℕ) (r r' : SegmentRecord) → get_or h.records p none ≡ some r → get_or h.records q none ≡ some r'
    → Lists r.content j g → Lists r'.content k g → (p ≡ q) × (j ≡ k)

-- a record and an opening only if the opening is of that record, and at one stretch
abbrev pub MixedApart : SegmentHouse → Type 0
MixedApart h =
    (g p i j k : ℕ) (r : SegmentRecord) (x : SegmentOpening) → get_or h.records p none ≡ some r → get_or h.openings i none ≡ some x
    → Lists r.content j g → Lists x.content k g → (x.handle.place ≡ some p) × (opening_stretch x + k ≡ record_stretch r + j)

-- two openings, or one at two stretches, only what a record lists
abbrev pub OpeningsApart : SegmentHouse → Type 0
OpeningsApart h =
    (g i l j k : ℕ) (x y : SegmentOpening) → get_or h.openings i none ≡ some x → get_or h.openings l none ≡ some y
    → Lists x.content j g → Lists y.content k g → ((p : ℕ) → T (not (is_in g (record_segments (get_or h.records p none))))) → (i ≡ l) × (j ≡ k)

pub record Apart (h : SegmentHouse) : Type 0 where
  pub records : RecordsApart h
  pub mixed : MixedApart h
  pub openings : OpeningsApart h
