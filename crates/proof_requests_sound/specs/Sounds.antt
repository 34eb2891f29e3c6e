-- A house stays sound when an open entry is used, and so through every effect at an open entry. Assumes nothing.
use Rattle.std.specs.Prelude.{ℕ, ◌+◌, ◌-◌, ◌≤◌, ◌<◌, ◌≡◌, Bool, not, ◌&&◌, ◌||◌, cond, List, map, eqb, length, get_or, set}
use Rattle.std.proofs.Common.{arith, le_refl, sym, ap, ap₂, ◌∙◌}
use Rattle.std.proofs.Math.Path.{refl}
use Rattle.std.proofs.Math.Bool.{true, false}
use Rattle.std.proofs.Math.Option.{Option, none, some}
use Rattle.std.proofs.Math.Dec.{T, nleb→lt}
use Rattle.combine.specs.Lists.{put}
use Rattle.placing.specs.Sizes.{entries, user_of, greatest_user}
use Rattle.store.specs.Store.{segment_of}
use Rattle.rules.specs.Headings.{Handle, opening, head_of, handle_of, value, moved, holds, slot_in, passes}
use Rattle.rules.specs.Effects.{Use, Effect}
use Rattle.rules.specs.House.{house, opens_place, works_place, changed, others_of}
use Rattle.rules.specs.Levels.{perform}
use Rattle.segments.specs.Free.{SegmentOpening, SegmentHouse, place_segments, lowest_free, has_room}
use Rattle.segments.specs.Deeds.{lacks, segment_at, shares_at, takes_at, target, segments_after, segment_level}
use Rattle.segments.specs.Laws.Sound.{times, mentions, SoundHouse}
use Rattle.combine.specs.Laws.Tests.{nor-first}
use Rattle.combine.specs.Laws.Replaced.{put_same}
use Rattle.proof_requests_sound.specs.Uses.{Usable, asks, renames, moves, first, last, replaces, appends}
use Rattle.proof_requests_sound.specs.Allowed.{Handles, an-end, a-freeing, a-filing, a-use}
use Rattle.proof_requests_sound.specs.Counts.{times-take, times-drop, but-less}
use Rattle.proof_requests_sound.specs.Taken.{taken_free, target-of}
use Rattle.proof_requests_sound.specs.Away.{handle-at}
use Rattle.proof_requests_sound.specs.Alone.{alone-like}
use Rattle.proof_requests_sound.specs.Listed.{once-entry, once-store}
use Rattle.proof_requests_sound.specs.Stored.{kept-open}
use Rattle.proof_requests_sound.specs.Opened.{sound-at, entry_in, entry-sound, ended-sound}
use Rattle.proof_requests_sound.specs.Filed.{filed-sound, freed-sound}

module _ (h : SegmentHouse) (s : SoundHouse h) (i : ℕ) (il : i < entries) (x : SegmentOpening) (ix : get_or h.openings i none ≡ some x) where
  -- the house with another opening at the entry
  abbrev having : Handle → List ℕ → SegmentHouse
  having n l = house h.segments h.records (set h.openings i (some (opening n l)))

  -- the entry's list gets shorter, or stays
  shrinks : (n : Handle) (l : List ℕ) → n.place ≡ x.handle.place → ((g : ℕ) → times g l ≤ times g x.content)
      → (g : ℕ) → mentions (having n l) g ≤ 1
  shrinks n l e k = once-entry h s.once i (entry_in h s i il) (some (opening n l))
      (λ g. rw (ix, e) (let z = k g in let w = but-less g (place_segments h.records x.handle.place) l x.content 0 (omega arith) in omega arith))

  stores-once : (v : ℕ) (n : Handle) → n.place ≡ x.handle.place → (T (takes_at h.records x v) → T (has_room h))
      → (g : ℕ) → mentions (having n (put x.content (slot_in x.handle v) (target h x v))) g ≤ 1
  unfolding target segment_of
  stores-once v n e room = go (takes_at h.records x v) refl
    where
      go : (b : Bool) → takes_at h.records x v ≡ b
          → (g : ℕ) → mentions (having n (put x.content (slot_in x.handle v) (cond b (lowest_free h) (segment_at x v)))) g ≤ 1
      go true q = once-store h s.once i (entry_in h s i il) (lowest_free h) (slot_in x.handle v) x _ ix e refl (taken_free h (room (rw q tt)))
      go false q =
          let k : T (not (lacks x v || shares_at h.records x v)) = rw q tt in
          let inside = nleb→lt (length x.content) (slot_in x.handle v) (nor-first (lacks x v) (shares_at h.records x v) k) in
          shrinks n _ e (λ g. rw (put_same x.content (slot_in x.handle v) 0 inside) (le_refl _))

  like : (w : Use) → Usable x.handle (takes_at h.records x) (has_room h) w → (w.handle.place ≡ x.handle.place) × (w.handle.permit ≡ x.handle.permit)
  like w (asks n) = (refl, refl)
  like w (renames n p) = (refl, refl)
  like w (moves c p v q p0 p1 l r k) = (refl, refl)
  like w (first c p l k) = (refl, refl)
  like w (last c p l k) = (refl, refl)
  like w (replaces p n c p0 p1 l r k b) = (refl, refl)
  like w (appends n c l r d k b) = (refl, refl)

  once-used : (w : Use) → Usable x.handle (takes_at h.records x) (has_room h) w
      → (g : ℕ) → mentions (having w.handle (segments_after h x w.handle w.deed)) g ≤ 1
  once-used w (asks n) = shrinks _ _ refl (λ g. le_refl _)
  once-used w (renames n p) = shrinks _ _ refl (λ g. le_refl _)
  once-used w (moves c p v q p0 p1 l r k) = shrinks _ _ refl (λ g. le_refl _)
  once-used w (first c p l k) = shrinks _ _ refl (λ g. times-drop g (length x.content - holds (moved x.handle 0 (value x.handle 0 + 1))) x.content)
  once-used w (last c p l k) = shrinks _ _ refl (λ g. times-take g (holds (moved x.handle 1 (value x.handle 1 - 1))) x.content)
  once-used w (replaces p n c p0 p1 l r k b) = stores-once (value x.handle p) (moved x.handle p (value x.handle p + 1)) refl k
  once-used w (appends n c l r d k b) = stores-once (value x.handle 1) (moved x.handle 1 (value x.handle 1 + 1)) refl k

  used_sound : (w : Use) → Usable x.handle (takes_at h.records x) (has_room h) w
      → SoundHouse (having w.handle (segments_after h x w.handle w.deed))
  used_sound w k =
      let f = sound-at h s i x ix in
      let e : get_or (map handle_of h.openings) i none ≡ some x.handle = handle-at h.openings i ∙ ap handle_of ix in
      entry-sound h s i il (some (opening w.handle (segments_after h x w.handle w.deed)))
      (kept-open h i (user_of i) x f (has_room h) w k (target-of h s.once i x ix f.file.range)) (once-used w k)
      (alone-like (map handle_of h.openings) i s.alone (some w.handle)
      (λ p. ap₂ (λ (b : Bool) (q : Option ℕ). b && passes (eqb p) q) (like w k).1 (like w k).0 ∙ ap (passes (works_place p)) (sym e))
      (λ p. ap (passes (eqb p)) (like w k).0 ∙ ap (passes (opens_place p)) (sym e)))

  pub handles-sound : (u : ℕ) → u ≤ greatest_user → (cells : List ℕ) (f : Effect)
      → Handles u (map head_of h.records) (takes_at h.records x) (others_of (has_room h) h.openings) x.handle f
      → SoundHouse (changed h i (perform (segment_level cells) h x f))
  handles-sound u ul cells f an-end = ended-sound h s i il
  handles-sound u ul cells f (a-freeing p q w) = freed-sound h s i il x ix p q w
  handles-sound u ul cells f (a-filing p r k) = filed-sound h s i il x ix u p r ul k
  handles-sound u ul cells f (a-use w k) = used_sound w k
