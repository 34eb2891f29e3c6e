-- What users know of records and openings that a change does not reach. Assumes nothing.
use Rattle.std.specs.Prelude.{ℕ, ◌≡◌, refl, not, List, T, get_or, set}
use Rattle.std.proofs.Common.{arith, ap}
use Rattle.std.proofs.Math.Option.{Option, none, some}
use Rattle.std.proofs.Math.Dec.{T_not}
use Rattle.combine.specs.Lists.{is_in}
use Rattle.placing.specs.Placing.{segment, slot_of}
use Rattle.store.specs.Store.{segment_of, elements_in}
use Rattle.store.specs.Laws.Elements.{Outside}
use Rattle.store.specs.Laws.Files.{Unlisted, elements-kept}
use Rattle.rules.specs.Headings.{filing, opening, handle_of, passes}
use Rattle.rules.specs.House.{opens_place}
use Rattle.segments.specs.Free.{SegmentRecord, SegmentOpening, record_segments, opening_segments, place_segments}
use Rattle.segments.specs.Laws.Sound.{SoundFile, SoundPlace, SoundEntry}
use Rattle.model.specs.Model.{File, body}
use Rattle.model.specs.View.{view_place, view_entry}
use Rattle.proof_requests_sound.specs.Counts.{in-at}
use Rattle.placing.specs.Laws.Held.{slot-within}
use Rattle.proof_requests_sound.specs.Away.{segments-away}
use Rattle.proof_model.specs.Deeds.{shared_with, body_seen}

-- ---- the cells of segment g change, which the file does not list

module _ (st st' : List ℕ) (g : ℕ) (kept : (k : ℕ) → Outside (segment g) k → get_or st' k 0 ≡ get_or st k 0) where
  file-frame : (n s b e : ℕ) (gs : List ℕ) → SoundFile n s b e gs → T (not (is_in g gs)) → elements_in st' gs s b e ≡ elements_in st gs s b e
  unfolding segment_of
  file-frame n s b e gs f t = elements-kept st st' gs s f.species b e (segment g) kept unlisted
    where
      unlisted : Unlisted gs s b e (segment g)
      unlisted x l r q =
          let held = slot-within s f.species b f.first e x l r in
          T_not (is_in g gs) t (in-at g gs (slot_of s b x) (omega (arith, f.each)) q)

  pub place-frame : (n : ℕ) (r : Option SegmentRecord) → SoundPlace n r → T (not (is_in g (record_segments r))) → view_place st' r ≡ view_place st r
  place-frame n none f t = refl
  place-frame n (some r) f t = ap {B = Option File} (λ (l : List ℕ). some (filing r.head l)) (file-frame n _ _ _ r.content f.file t)

  pub entry_frame : (n u : ℕ) (rs : List (Option SegmentRecord)) (x : Option SegmentOpening) → SoundEntry n u rs x → T (not (is_in g (opening_segments x)))
      → view_entry st' rs x ≡ view_entry st rs x
  entry_frame n u rs none f t = refl
  entry_frame n u rs (some x) f t =
      ap (λ (l : List ℕ). some (opening x.handle (body l (shared_with (place_segments rs x.handle.place) x.content)))) (file-frame n _ _ _ x.content f.file t)

-- ---- the record at p changes, which the opening is not of

pub entry-away-seen : (st : List ℕ) (rs : List (Option SegmentRecord)) (p : ℕ) (y : Option SegmentRecord) (x : Option SegmentOpening)
    → T (not (passes (opens_place p) (handle_of x))) → view_entry st (set rs p y) x ≡ view_entry st rs x
entry-away-seen st rs p y none t = refl
entry-away-seen st rs p y (some x) t =
    ap (λ (l : List ℕ). some (opening x.handle (body_seen st l x.handle x.content))) (segments-away rs p y x.handle.place t)
