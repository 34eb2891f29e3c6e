-- Every effect that a rule gives: the view of what it leaves is the model's effect on the view, with the same answer. Assumes nothing.
use Rattle.std.specs.Prelude.{ℕ, ◌+◌, ◌-◌, ◌*◌, ◌≤◌, ◌≡◌, Bool, List, [], ◌∷◌, map, T, eqb, get_or}
use Rattle.std.proofs.Common.{arith, le_refl, ap₂, ◌∙◌}
use Rattle.std.proofs.Math.Path.{refl, sym, ap, subst}
use Rattle.std.proofs.Math.Bool.{true}
use Rattle.std.proofs.Math.Option.{Option, none, some}
use Rattle.std.proofs.Math.Dec.{eqb_refl}
use Rattle.std.proofs.Math.ListN.{length, replicate, get_or-map}
use Rattle.combine.specs.Lists.{is_in, tab}
use Rattle.names.specs.Names.{name_of}
use Rattle.placing.specs.Sizes.{segment_cells, user_of}
use Rattle.store.specs.Store.{elements_in}
use Rattle.rules.specs.Headings.{Heading, Handle, Open, filing, opening, head_of, value, moved, named, holds}
use Rattle.rules.specs.Effects.{Deed, stays, first_leaves, last_leaves, stores, Delivered, plain, Use, does, Effect, used}
use Rattle.rules.specs.Rules.{opened_as, headed, new_handle}
use Rattle.rules.specs.House.{house, others_of, changed}
use Rattle.rules.specs.Levels.{perform, or_blank}
use Rattle.segments.specs.Free.{SegmentRecord, SegmentOpening, SegmentHouse, record_segments, place_segments, has_room}
use Rattle.segments.specs.Deeds.{takes_at, segments_after, store_after, segment_level}
use Rattle.segments.specs.State.{State, state, perform_on_segments}
use Rattle.segments.specs.Laws.Sound.{SoundFiled, SoundPlace, SoundOpen, SoundHouse}
use Rattle.model.specs.Model.{Body, body, model, elements_of_file, body_after, model_level}
use Rattle.model.specs.Step.{perform_on_model}
use Rattle.model.specs.View.{view_place, view_opening, view_entry}
use Rattle.combine.specs.Laws.Tests.{true_of, or-first, or-second}
use Rattle.proof_requests_sound.specs.Uses.{Inside, Usable, asks, renames, moves, first, last, replaces, appends}
use Rattle.proof_requests_sound.specs.Allowed.{Old, Opens, a-new, an-old, Handles, an-end, a-freeing, a-filing, a-use}
use Rattle.proof_requests_sound.specs.Away.{behind, away-works, away-filed}
use Rattle.proof_requests_sound.specs.Opened.{sound-at}
use Rattle.proof_requests_sound.specs.Requests.{AllowedAt}
use Rattle.proof_model.specs.Deeds.{shared_with, body_seen, told-seen, moved-seen, first-seen, last-seen}
use Rattle.proof_model.specs.Stores.{replaced-seen, appended-seen}
use Rattle.proof_model.specs.Entries.{view_state, files, entry_seen, record-seen, store-seen}

-- what stands for a closed entry
pub blank-seen : (st : List ℕ) (rs : List (Option SegmentRecord)) (x : Option SegmentOpening)
    → or_blank model_level (view_entry st rs x) ≡ view_opening st rs (or_blank (segment_level st) x)
unfolding elements_in tab
blank-seen st rs none = refl
blank-seen st rs (some x) = refl

-- a record's segments are all shared with it
all-shared : (l : List ℕ) → shared_with l l ≡ replicate (length l) true
all-shared l = go l (λ g t. t)
  where
    go : (k : List ℕ) → ((g : ℕ) → T (is_in g k) → T (is_in g l)) → map (λ g. is_in g l) k ≡ replicate (length k) true
    go [] h = refl
    go (x ∷ xs) h =
        ap₂ {C = List Bool} (λ b bs. b ∷ bs) (true_of (is_in x l) (h x (or-first (eqb x x) (is_in x xs) (eqb_refl x))))
        (go xs (λ g t. h g (or-second (eqb g x) (is_in g xs) t)))

module _ (m : State) (sound : SoundHouse m.house) (fits : segment_cells * m.house.segments ≤ length m.store) (i : ℕ) where
  abbrev st : List ℕ
  st = m.store

  abbrev h : SegmentHouse
  h = m.house

  -- what users know after the effect at entry i with the opening x, and the answer
  pub record Seen (x : SegmentOpening) (f : Effect) : Type 0 where
    pub after : view_state (perform_on_segments m i x f).1 ≡ (perform_on_model (view_state m) i (view_opening m.store m.house.records x) f).1
    pub answer : (perform_on_segments m i x f).0 ≡ (perform_on_model (view_state m) i (view_opening m.store m.house.records x) f).0

  -- ---- at a closed entry

  new-seen : (s : ℕ) → view_entry st h.records (some (opening (new_handle s) [])) ≡ some (opening (new_handle s) (body [] []))
  unfolding elements_in tab
  new-seen s = refl

  abbrev Old-seen : ℕ → Handle → Type 0
  Old-seen p n = view_opening st h.records (opening n (record_segments (get_or h.records p none)))
      ≡ opening n (body (elements_of_file (get_or (files st h i) p none)) (replicate (holds n) true))

  old-seen : (u p : ℕ) (n : Handle) → Old u (map head_of h.records) (others_of (has_room h) h.openings) p n → Old-seen p n
  unfolding opened_as
  old-seen u p n o =
      let b = behind h.records p o.heading o.there in
      let r = b.filed in
      let segments = record_segments (get_or h.records p none) in
      let f : SoundFiled h.segments r = subst (λ (y : Option SegmentRecord). SoundPlace h.segments y) b.there (sound.records p) in
      let handle : n ≡ opened_as o.work p r.head = o.handle ∙ ap (opened_as o.work p) (sym b.head) in
      let file : elements_of_file (get_or (files st h i) p none) ≡ elements_in st r.content r.head.species r.head.begin r.head.end =
      ap elements_of_file (get_or-map (view_place st) h.records p none ∙ ap (view_place st) b.there) in
      let elements : elements_in st segments r.head.species r.head.begin r.head.end ≡ elements_of_file (get_or (files st h i) p none) =
      ap (λ (y : Option SegmentRecord). elements_in st (record_segments y) r.head.species r.head.begin r.head.end) b.there ∙ sym file in
      let shared : shared_with segments segments ≡ replicate (holds (opened_as o.work p r.head)) true =
      all-shared segments ∙ ap (λ (k : ℕ). replicate k true) (ap (λ (y : Option SegmentRecord). length (record_segments y)) b.there ∙ f.file.each) in
      subst (Old-seen p) (sym handle) (λ k. opening (opened_as o.work p r.head) (body (elements k) (shared k)))

  opens-seen : (u : ℕ) (x : SegmentOpening) (f : Effect) → Opens u (map head_of h.records) (others_of (has_room h) h.openings) f → Seen x f
  opens-seen u x f (a-new s l) = record { after = ap (model (length st)) (entry_seen st h i _ _ (new-seen s)); answer = refl }
  opens-seen u x f (an-old p n o) =
      record { after = ap (model (length st)) (entry_seen st h i _ _ (ap {B = Option (Open Body)} some (old-seen u p n o))); answer = refl }

  -- ---- at an open one

  module _ (x : SegmentOpening) (ix : get_or m.house.openings i none ≡ some x) where
    before : SoundOpen h.segments (user_of i) h.records x
    before = sound-at h sound i x ix

    abbrev rsegs : List ℕ
    rsegs = place_segments h.records x.handle.place

    -- the opening, by what is known of its content
    known : (cells : List ℕ) (n : Handle) (d : Deed) → n.place ≡ x.handle.place
        → body_seen cells rsegs n (segments_after h x n d) ≡ body_after (view_opening st h.records x) n d
        → view_opening cells h.records (opening n (segments_after h x n d)) ≡ opening n (body_after (view_opening st h.records x) n d)
    known cells n d e q =
        ap (λ (c : Body). opening n c) (ap (λ (p : Option ℕ). body_seen cells (place_segments h.records p) n (segments_after h x n d)) e ∙ q)

    -- a deed that stores nothing
    still_seen : (t : Delivered) (n : Handle) (d : Deed) → store_after st h x d ≡ st → n.place ≡ x.handle.place → Inside x.handle t
        → body_seen st rsegs n (segments_after h x n d) ≡ body_after (view_opening st h.records x) n d → Seen x (used (does t n d))
    still_seen t n d es ep k q = record {
      after =
          ap (λ (cells : List ℕ). view_state (state cells (changed h i (perform (segment_level st) h x (used (does t n d)))))) es
          ∙ ap (model (length st)) (entry_seen st h i _ _ (ap {B = Option (Open Body)} some (known st n d ep q)));
      answer = told-seen st h (user_of i) x before t k;
    }

    -- a number is stored at position v
    module _ (v k : ℕ) (low : value x.handle 0 ≤ v) (high : v ≤ value x.handle 1) (room : T (takes_at h.records x v) → T (has_room h)) where
      stores-seen : (n : Handle) → n.place ≡ x.handle.place
          → body_seen (store_after st h x (stores v k)) rsegs n (segments_after h x n (stores v k)) ≡ body_after (view_opening st h.records x) n (stores v k)
          → Seen x (used (does (plain 0) n (stores v k)))
      stores-seen n ep q = record {
        after = store-seen st h sound fits i x ix v k low high room (opening n (segments_after h x n (stores v k))) (opening n (body_after (view_opening st h.records x) n (stores v k)))
            (known (store_after st h x (stores v k)) n (stores v k) ep q);
        answer = refl;
      }

    used-seen : (w : Use) → Usable x.handle (takes_at h.records x) (has_room h) w → Seen x (used w)
    used-seen w (asks n) = still_seen (plain n) x.handle stays refl refl tt refl
    used-seen w (renames bytes p) = still_seen (plain 0) (named x.handle (name_of bytes)) stays refl refl tt refl
    used-seen w (moves t p v q p0 p1 l r k) = still_seen t (moved x.handle p v) stays refl refl k (moved-seen st h (user_of i) x before p v p0 p1)
    used-seen w (first t p l k) = still_seen t (moved x.handle 0 (value x.handle 0 + 1)) first_leaves refl refl k (first-seen st h (user_of i) x before l)
    used-seen w (last t p l k) = still_seen t (moved x.handle 1 (value x.handle 1 - 1)) last_leaves refl refl k (last-seen st h (user_of i) x before l)
    used-seen w (replaces p n c p0 p1 l r room b) =
        let v = value x.handle p in
        stores-seen v n l (omega arith) room (moved x.handle p (v + 1)) refl (replaced-seen st h sound fits i x ix v n l (omega arith) room b p p0 p1 r)
    used-seen w (appends n c l r d room b) =
        let v = value x.handle 1 in
        stores-seen v n l (le_refl v) room (moved x.handle 1 (v + 1)) refl (appended-seen st h sound fits i x ix v n l (le_refl v) room b refl)

    filed-seen : (u : ℕ) (public : Bool) (r : Heading) → r ≡ headed public u x.handle
        → view_place st (some (filing r x.content)) ≡ some (filing r (elements_in st x.content x.handle.species (value x.handle 0) (value x.handle 1)))
    unfolding headed
    filed-seen u public r q =
        ap (λ (y : Heading). some (filing r (elements_in st x.content y.species y.begin y.end))) q

    handles-seen : (u : ℕ) (f : Effect) → Handles u (map head_of h.records) (takes_at h.records x) (others_of (has_room h) h.openings) x.handle f → Seen x f
    handles-seen u f an-end = record { after = ap (model (length st)) (entry_seen st h i none none refl); answer = refl }
    handles-seen u f (a-freeing p q w) =
        record { after = ap (model (length st)) (record-seen st h i p none none refl (away-works h sound i p x ix q w)); answer = refl }
    handles-seen u f (a-filing p r k) = record {
      after = ap (model (length st)) (record-seen st h i p (some (filing r x.content)) _ (filed-seen u k.public r k.heading) (away-filed h sound i p x u r ix k));
      answer = refl;
    }
    handles-seen u f (a-use w k) = used-seen w k

  pub effect-seen : (u : ℕ) (x : Option SegmentOpening) → get_or m.house.openings i none ≡ x → (f : Effect) → AllowedAt u m.house m.store x f
      → Seen (or_blank (segment_level m.store) x) f
  effect-seen u none ix f a = opens-seen u _ f a
  effect-seen u (some x) ix f a = handles-seen x ix u f a
