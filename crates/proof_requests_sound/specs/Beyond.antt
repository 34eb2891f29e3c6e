-- Every request leaves the store its length, and the cells beyond its segments. Assumes nothing.
use Prim.Native.Nat.{ℕ, ◌*◌, ◌≤◌, ◌<◌}
use Rattle.std.proofs.Common.{arith, ◌∙◌, inr}
use Rattle.std.specs.Prelude.{◌≡◌, refl, Bool, true, false, not, cond, List, T, length, get_or}
use Rattle.std.proofs.Math.Option.{Option, none, some}
use Rattle.std.proofs.Math.Dec.{nleb→lt}
use Rattle.placing.specs.Sizes.{segment_cells, entry_of, user_of}
use Rattle.placing.specs.Placing.{segment, position}
use Rattle.store.specs.Store.{zeroed, copied, segment_of}
use Rattle.store.specs.Laws.Elements.{put-length, put-outside, zeroed-length, zeroed-outside, copied-length, copied-outside}
use Rattle.rules.specs.Calls.{Request}
use Rattle.rules.specs.Headings.{value, slot_in}
use Rattle.rules.specs.Effects.{stores, Use, Effect}
use Rattle.rules.specs.Levels.{or_blank}
use Rattle.segments.specs.Free.{SegmentOpening, has_room}
use Rattle.segments.specs.Deeds.{lacks, segment_at, shares_at, takes_at, target, prepared, store_after, perform_store, segment_level}
use Rattle.segments.specs.State.{State, request_on_segments}
use Rattle.segments.specs.Laws.Sound.{SoundOpen, SoundHouse}
use Rattle.proof_requests_sound.specs.Uses.{Usable, asks, renames, moves, first, last, replaces, appends}
use Rattle.proof_requests_sound.specs.Allowed.{a-new, an-old, an-end, a-freeing, a-filing, a-use}
use Rattle.proof_requests_sound.specs.Taken.{target-of}
use Rattle.proof_requests_sound.specs.Opened.{sound-at}
use Rattle.proof_requests_sound.specs.Requests.{AllowedAt, effect-allowed, request-keeps}

-- the store keeps its length, and its cells beyond n segments
pub record KeptBeyond (n : ℕ) (before after : List ℕ) : Type 0 where
  pub size : length after ≡ length before
  pub cells : (k : ℕ) → segment_cells * n ≤ k → get_or after k 0 ≡ get_or before k 0

unchanged : (n : ℕ) (st : List ℕ) → KeptBeyond n st st
unchanged n st = record { size = refl; cells = λ k h. refl }

module _ (m : State) (sound : SoundHouse m.house) (fits : segment_cells * m.house.segments ≤ length m.store) where
  abbrev Beyond : List ℕ → Type 0
  Beyond after = KeptBeyond m.house.segments m.store after

  -- ---- at an open entry i

  module _ (i : ℕ) (x : SegmentOpening) (ix : get_or m.house.openings i none ≡ some x) where
    before : SoundOpen m.house.segments (user_of i) m.house.records x
    before = sound-at m.house sound i x ix

    module _ (v n : ℕ) (room : T (takes_at m.house.records x v) → T (has_room m.house)) where
      target-in : target m.house x v < m.house.segments
      target-in = (target-of m.house sound.once i x ix before.file.range v room).small

      prepared-beyond : Beyond (prepared m.store m.house x v)
      unfolding prepared segment_of
      prepared-beyond = go (lacks x v) (shares_at m.house.records x v)
          (λ t. before.file.range (slot_in x.handle v) (nleb→lt (length x.content) (slot_in x.handle v) t))
        where
          g : ℕ
          g = target m.house x v

          zeroes : Beyond (zeroed m.store (segment g))
          zeroes =
              let l = target-in in
              record {
                size = zeroed-length m.store (segment g) (omega arith);
                cells = λ k h. zeroed-outside m.store (segment g) (omega arith) k (inr (omega arith));
              }

          copies : segment_at x v < m.house.segments → Beyond (copied m.store (segment (segment_at x v)) (segment g))
          copies w =
              let l = target-in in
              record {
                size = copied-length m.store (segment (segment_at x v)) (segment g) (omega arith) (omega arith);
                cells = λ k h. copied-outside m.store (segment (segment_at x v)) (segment g) (omega arith) (omega arith) k (inr (omega arith));
              }

          go : (none shared : Bool) → (T (not none) → segment_at x v < m.house.segments)
              → Beyond (cond none (zeroed m.store (segment g)) (cond shared (copied m.store (segment (segment_at x v)) (segment g)) m.store))
          go true shared w = zeroes
          go false true w = copies (w tt)
          go false false w = unchanged m.house.segments m.store

      stores-beyond : Beyond (store_after m.store m.house x (stores v n))
      stores-beyond =
          let l = target-in in
          let st = prepared m.store m.house x v in
          let g = segment (target m.house x v) in
          record {
            size = put-length st x.handle.species g (position v) n ∙ prepared-beyond.size;
            cells = λ k h. put-outside st x.handle.species before.file.species g (position v) n k (inr (omega arith)) ∙ prepared-beyond.cells k h;
          }

    used-beyond : (w : Use) → Usable x.handle (takes_at m.house.records x) (has_room m.house) w → Beyond (store_after m.store m.house x w.deed)
    used-beyond w (asks n) = unchanged m.house.segments m.store
    used-beyond w (renames bytes p) = unchanged m.house.segments m.store
    used-beyond w (moves c p v q p0 p1 l r k) = unchanged m.house.segments m.store
    used-beyond w (first c p l k) = unchanged m.house.segments m.store
    used-beyond w (last c p l k) = unchanged m.house.segments m.store
    used-beyond w (replaces p n c p0 p1 l r k b) = stores-beyond (value x.handle p) n k
    used-beyond w (appends n c l r d k b) = stores-beyond (value x.handle 1) n k

  -- ---- every request

  effect-beyond : (u i : ℕ) (x : Option SegmentOpening) → get_or m.house.openings i none ≡ x → (f : Effect) → AllowedAt u m.house m.store x f
      → Beyond (perform_store m.store m.house (or_blank (segment_level m.store) x) f)
  effect-beyond u i none ix f (a-new s l) = unchanged m.house.segments m.store
  effect-beyond u i none ix f (an-old p n o) = unchanged m.house.segments m.store
  effect-beyond u i (some x) ix f an-end = unchanged m.house.segments m.store
  effect-beyond u i (some x) ix f (a-freeing p q w) = unchanged m.house.segments m.store
  effect-beyond u i (some x) ix f (a-filing p r k) = unchanged m.house.segments m.store
  effect-beyond u i (some x) ix f (a-use w k) = used-beyond i x ix w k

  request-beyond : (r : Request) (u e : ℕ) → Beyond (request_on_segments r u e m).after.store
  request-beyond r u e =
      let x = get_or m.house.openings (entry_of u e) none in
      request-keeps (λ n. Beyond n.store) r u e m (unchanged m.house.segments m.store)
      (λ hu he f q. effect-beyond u (entry_of u e) x refl f (effect-allowed m.store r u m.house x f q))

module _ (r : Request) (u e : ℕ) (m : State) where
  pub request-keeps-segments : (request_on_segments r u e m).after.house.segments ≡ m.house.segments
  request-keeps-segments = request-keeps (λ n. n.house.segments ≡ m.house.segments) r u e m refl (λ hu he f q. refl)

  module _ (sound : SoundHouse m.house) (fits : segment_cells * m.house.segments ≤ length m.store) where
    pub request-keeps-store-length : length (request_on_segments r u e m).after.store ≡ length m.store
    request-keeps-store-length = (request-beyond m sound fits r u e).size

    pub request-keeps-beyond : (k : ℕ) → segment_cells * m.house.segments ≤ k → get_or (request_on_segments r u e m).after.store k 0 ≡ get_or m.store k 0
    request-keeps-beyond = (request-beyond m sound fits r u e).cells
