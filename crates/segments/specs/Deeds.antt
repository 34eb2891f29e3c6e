-- What a deed does to the segments of an opening, and to the cells of the store. Assumes nothing.
use Rattle.std.specs.Prelude.{ℕ, ◌-◌, Bool, ◌||◌, cond, List, [], leb, length, take, drop}
use Rattle.std.proofs.Math.Option.{Option}
use Rattle.placing.specs.Sizes.{Cells}
use Rattle.combine.specs.Lists.{is_in, put}
use Rattle.placing.specs.Placing.{segment, position}
use Rattle.store.specs.Store.{element_at, put_element, zeroed, copied, segment_of}
use Rattle.rules.specs.Headings.{Handle, value, holds, slot_in}
use Rattle.rules.specs.Effects.{Deed, stays, first_leaves, last_leaves, stores, Delivered, plain, element, Effect, opens_new, opens_old, ended, unfiled, filed, used}
use Rattle.rules.specs.Levels.{Level}
use Rattle.segments.specs.Free.{SegmentRecord, SegmentOpening, SegmentHouse, record_segments, place_segments, lowest_free, has_room}

-- ---- position v of an opening: its stretch has no segment, which is so too where one was dropped ("A shared segment once dropped isn't
-- taken back."); its segment; that is the record's too

abbrev pub lacks : SegmentOpening → (v : ℕ) → Bool
lacks x v = leb (length x.content) (slot_in x.handle v)

abbrev pub segment_at : SegmentOpening → (v : ℕ) → ℕ
segment_at x v = segment_of x.content x.handle.species (value x.handle 0) v

-- "A work opening of an old file shares the record's segments until it changes one"
abbrev pub shares_at : (records : List (Option SegmentRecord)) → SegmentOpening → (v : ℕ) → Bool
shares_at rs x v = is_in (segment_at x v) (place_segments rs x.handle.place)

abbrev pub takes_at : (records : List (Option SegmentRecord)) → SegmentOpening → (v : ℕ) → Bool
takes_at rs x v = lacks x v || shares_at rs x v

-- the segment that is stored into: a taken one, or the opening's own
unfoldable pub target : SegmentHouse → SegmentOpening → (v : ℕ) → ℕ
target h x v = cond (takes_at h.records x v) (lowest_free h) (segment_at x v)

-- ---- deeds

-- the list afterwards, n being the new handle: "A file holds one segment for each stretch with at least one of its positions, and no other"
abbrev pub segments_after : SegmentHouse → SegmentOpening → (afterwards : Handle) → Deed → List ℕ
segments_after h x n stays = x.content
segments_after h x n first_leaves = drop (length x.content - holds n) x.content
segments_after h x n last_leaves = take (holds n) x.content
segments_after h x n (stores v k) = put x.content (slot_in x.handle v) (target h x v)

-- "Taken for a stretch that had none, it is zeroed before use."; "before a write into a shared segment, that segment is copied to a taken
-- one"
unfoldable pub prepared : (store : Cells) → SegmentHouse → SegmentOpening → (v : ℕ) → Cells
prepared s h x v =
    cond (lacks x v) (zeroed s (segment (target h x v)))
    (cond (shares_at h.records x v) (copied s (segment (segment_at x v)) (segment (target h x v)))
    s)

abbrev pub store_after : (store : Cells) → SegmentHouse → SegmentOpening → Deed → Cells
store_after s h x stays = s
store_after s h x first_leaves = s
store_after s h x last_leaves = s
store_after s h x (stores v k) = put_element (prepared s h x v) x.handle.species (segment (target h x v)) (position v) k

-- only a deed changes cells of the store: "freed segments keep their cells"
abbrev pub perform_store : (store : Cells) → SegmentHouse → SegmentOpening → Effect → Cells
perform_store s h x (opens_new n) = s
perform_store s h x (opens_old p n) = s
perform_store s h x ended = s
perform_store s h x (unfiled p) = s
perform_store s h x (filed p r) = s
perform_store s h x (used u) = store_after s h x u.deed

-- ---- the level, over the store's cells s

abbrev pub delivered_by_segments : (store : Cells) → SegmentOpening → Delivered → ℕ
delivered_by_segments s x (plain n) = n
delivered_by_segments s x (element v) = element_at s x.handle.species (segment (segment_at x v)) (position v)

abbrev pub segment_level : (store : Cells) → Level (List ℕ) (List ℕ)
segment_level s =
    record {
      room = has_room;
      takes = λ h x v. takes_at h.records x v;
      empty = [];
      shown = λ n r. record_segments r;
      filed_as = λ l. l;
      after = segments_after;
      says = delivered_by_segments s;
    }
