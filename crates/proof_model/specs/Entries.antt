-- What users know of a house of which one entry, or an entry and a record, change. Assumes nothing.
use Rattle.std.specs.Prelude.{ℕ, ◌*◌, ◌≤◌, ◌≡◌, List, map, T, length, get_or, set}
use Rattle.std.proofs.Math.Path.{refl, ap}
use Rattle.std.proofs.Common.{◌∙◌}
use Rattle.std.proofs.Math.Option.{Option, none, some}
use Rattle.placing.specs.Sizes.{segment_cells, user_of}
use Rattle.rules.specs.Headings.{Open, value}
use Rattle.rules.specs.House.{house}
use Rattle.segments.specs.Free.{SegmentRecord, SegmentOpening, SegmentHouse, has_room}
use Rattle.segments.specs.Deeds.{takes_at, target}
use Rattle.segments.specs.State.{State}
use Rattle.segments.specs.Laws.Sound.{SoundHouse}
use Rattle.model.specs.Model.{File, Body, Model, model}
use Rattle.model.specs.View.{view_place, view_opening, view_entry, view_house}
use Rattle.combine.specs.Laws.Replaced.{map-set}
use Rattle.proof_requests_sound.specs.Away.{Away}
use Rattle.combine.specs.Laws.Mapped.{map_frame, map-set-frame}
use Rattle.proof_model.specs.Stores.{aim, stored, stored-length, stored-outside}
use Rattle.proof_model.specs.Frames.{place-frame, entry_frame, entry-away-seen}

-- what users know of a store and what its tables say
abbrev pub view_state : State → Model
view_state m = model (length m.store) (view_house m.store m.house)

module _ (st : List ℕ) (h : SegmentHouse) (i : ℕ) where
  abbrev pub files : List (Option File)
  files = map (view_place st) h.records

  abbrev pub opened : List (Option (Open Body))
  opened = map (view_entry st h.records) h.openings

  -- the entry changes, and the store doesn't
  pub entry_seen : (y : Option SegmentOpening) (z : Option (Open Body)) → view_entry st h.records y ≡ z
      → view_house st (house h.segments h.records (set h.openings i y)) ≡ house h.segments files (set opened i z)
  entry_seen y z e = λ k. house h.segments files ((map-set (view_entry st h.records) h.openings i y ∙ ap (set opened i) e) k)

  -- the entry ends, and the record at p changes, which no other entry opens
  pub record-seen : (p : ℕ) (y : Option SegmentRecord) (z : Option File) → view_place st y ≡ z → Away h i p
      → view_house st (house h.segments (set h.records p y) (set h.openings i none)) ≡ house h.segments (set files p z) (set opened i none)
  unfolding Away
  record-seen p y z e away = λ k. house h.segments
      ((map-set (view_place st) h.records p y ∙ ap (set files p) e) k)
      (map-set-frame (view_entry st h.records) (view_entry st (set h.records p y)) h.openings i none none none refl
      (λ j d. entry-away-seen st h.records p y (get_or h.openings j none) (away j d)) k)

-- a number is stored at position v of the opening x of entry i, which becomes y
module _ (st : List ℕ) (h : SegmentHouse) (sound : SoundHouse h) (fits : segment_cells * h.segments ≤ length st) (i : ℕ) (x : SegmentOpening)
    (ix : get_or h.openings i none ≡ some x) (v n : ℕ) (low : value x.handle 0 ≤ v) (high : v ≤ value x.handle 1)
    (room : T (takes_at h.records x v) → T (has_room h)) where
  abbrev after : List ℕ
  after = stored st h sound fits i x ix v n low high room

  pub store-seen : (y : SegmentOpening) (z : Open Body) → view_opening after h.records y ≡ z
      → model (length after) (view_house after (house h.segments h.records (set h.openings i (some y))))
      ≡ model (length st) (house h.segments (files st h i) (set (opened st h i) i (some z)))
  store-seen y z e =
      let g = target h x v in
      let kept = stored-outside st h sound fits i x ix v n low high room in
      let own = aim st h sound fits i x ix v n low high room in
      λ k. model (stored-length st h sound fits i x ix v n low high room k)
      (house h.segments
      (map_frame (view_place st) (view_place after) h.records none
      (λ j. place-frame st after g kept h.segments (get_or h.records j none) (sound.records j) (own.no_record j)) k)
      (map-set-frame (view_entry st h.records) (view_entry after h.records) h.openings i (some y) none (some z) (ap {B = Option (Open Body)} some e)
      (λ j d. entry_frame st after g kept h.segments (user_of j) h.records (get_or h.openings j none) (sound.openings j) (own.no_other j d)) k))
