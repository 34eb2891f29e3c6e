-- Segments change numbers by an exchange and their cells go along: soundness stays, and users know the same, whatever is open. Assumes nothing.
use Rattle.std.specs.Prelude.{ℕ, suc, ◌≤◌, ◌<◌, ◌≡◌, Bool, true, false, ◌||◌, List, [], ◌∷◌, map, T, length, get_or}
use Rattle.std.proofs.Common.{arith, sym, ap, ◌∙◌, subst, T_not}
use Rattle.std.proofs.Math.Path.{refl, ap₂}
use Rattle.std.proofs.Math.Bool.{not}
use Rattle.std.proofs.Math.Option.{Option, none, some}
use Rattle.std.proofs.Math.Dec.{not_T}
use Rattle.std.proofs.lemmas.List.{length-map}
use Rattle.std.proofs.Math.ListN.{get_or-map}
use Rattle.combine.specs.Lists.{any, is_in}
use Rattle.placing.specs.Sizes.{user_of}
use Rattle.rules.specs.Headings.{head_of, handle_of, filing, opening, value, passes}
use Rattle.rules.specs.Rules.{is_own, is_public}
use Rattle.rules.specs.House.{house}
use Rattle.segments.specs.Free.{SegmentRecord, SegmentOpening, SegmentHouse, record_segments, opening_segments, place_segments, is_free}
use Rattle.segments.specs.Moves.{renumbered_record}
use Rattle.segments.specs.Laws.Sound.{SoundFile, SoundPlace, Tied, Placed, SoundEntry, Single, Alone, SoundHouse}
use Rattle.model.specs.Model.{body}
use Rattle.model.specs.View.{view_place, view_entry, view_house}
use Rattle.combine.specs.Laws.Tests.{or-first, or-second}
use Rattle.combine.specs.Laws.Sums.{any_at}
use Rattle.proof_moves.specs.Moves.{Exchange, Carries}
use Rattle.proof_moves.specs.Renumbered.{renumbered_opening, renumbered, in-renumbered, map_at, place-renumbered, mentions-renumbered, file-renumbered}

-- ---- lists

any-map : {A : Type 0} (p q : A → Bool) (v : A → A) (l : List A) → ((x : A) → p (v x) ≡ q x) → any p (map v l) ≡ any q l
any-map p q v [] e = refl
any-map p q v (x ∷ xs) e = ap₂ (λ (a b : Bool). a || b) (e x) (any-map p q v xs e)

map-after : {A B : Type 0} (u : A → B) (v : A → A) (w : A → B) (l : List A) (d : A) → ((k : ℕ) → k < length l → u (v (get_or l k d)) ≡ w (get_or l k d)) → map u (map v l) ≡ map w l
map-after u v w [] d e = refl
map-after {B = B} u v w (x ∷ xs) d e = ap₂ {C = List B} (λ a b. a ∷ b) (e 0 (omega arith)) (map-after u v w xs d (λ k h. e (suc k) (omega arith)))

-- ---- who lists a segment

pub record-lists : (h : SegmentHouse) (g p : ℕ) → T (is_in g (record_segments (get_or h.records p none))) → T (not (is_free h g))
unfolding is_free
record-lists h g p t =
    let a = any (λ r. is_in g (record_segments r)) h.records in
    let b = any (λ x. is_in g (opening_segments x)) h.openings in
    not_T (not (a || b)) (λ n. T_not (a || b) n (or-first a b (any_at (λ r. is_in g (record_segments r)) h.records p none tt t)))

pub opening-lists : (h : SegmentHouse) (g i : ℕ) → T (is_in g (opening_segments (get_or h.openings i none))) → T (not (is_free h g))
unfolding is_free
opening-lists h g i t =
    let a = any (λ r. is_in g (record_segments r)) h.records in
    let b = any (λ x. is_in g (opening_segments x)) h.openings in
    not_T (not (a || b)) (λ n. T_not (a || b) n (or-second a b (any_at (λ x. is_in g (opening_segments x)) h.openings i none tt t)))

-- ---- headings and handles stay

heads-stay : (f : ℕ → ℕ) (rs : List (Option SegmentRecord)) → map head_of (map (renumbered_record f) rs) ≡ map head_of rs
heads-stay f [] = refl
heads-stay f (none ∷ rs) = ap (λ l. none ∷ l) (heads-stay f rs)
heads-stay f (some r ∷ rs) = ap (λ l. some r.head ∷ l) (heads-stay f rs)

handles-stay : (f : ℕ → ℕ) (xs : List (Option SegmentOpening)) → map handle_of (map (renumbered_opening f) xs) ≡ map handle_of xs
handles-stay f [] = refl
handles-stay f (none ∷ xs) = ap (λ l. none ∷ l) (handles-stay f xs)
handles-stay f (some x ∷ xs) = ap (λ l. some x.handle ∷ l) (handles-stay f xs)

module _ (n : ℕ) (f : ℕ → ℕ) (w : Exchange n f) where
  -- a segment is free exactly if the one that it was is
  pub free-renumbered : (h : SegmentHouse) (g : ℕ) → is_free (renumbered f h) g ≡ is_free h (f g)
  unfolding is_free
  free-renumbered h g =
      ap₂ (λ (a b : Bool). not (a || b))
      (any-map (λ r. is_in g (record_segments r)) (λ r. is_in (f g) (record_segments r)) (renumbered_record f) h.records of-record)
      (any-map (λ x. is_in g (opening_segments x)) (λ x. is_in (f g) (opening_segments x)) (renumbered_opening f) h.openings of-opening)
    where
      of-record : (r : Option SegmentRecord) → is_in g (record_segments (renumbered_record f r)) ≡ is_in (f g) (record_segments r)
      of-record none = refl
      of-record (some r) = in-renumbered n f w g r.content

      of-opening : (x : Option SegmentOpening) → is_in g (opening_segments (renumbered_opening f x)) ≡ is_in (f g) (opening_segments x)
      of-opening none = refl
      of-opening (some x) = in-renumbered n f w g x.content

  -- ---- soundness

  file-sound : (sp b e : ℕ) (l : List ℕ) → SoundFile n sp b e l → SoundFile n sp b e (map f l)
  file-sound sp b e l s =
      record {
        species = s.species;
        first = s.first;
        order = s.order;
        last = s.last;
        few = s.few;
        each = length-map l f ∙ s.each;
        range = λ k h.
            let lk : k < length l = subst (λ (m : ℕ). k < m) (length-map l f) h in
            subst (λ (g : ℕ). g < n) (sym (map_at f l k lk)) (w.range (get_or l k 0) (s.range k lk));
      }

  place-sound : (r : Option SegmentRecord) → SoundPlace n r → SoundPlace n (renumbered_record f r)
  place-sound none s = tt
  place-sound (some r) s =
      record { file = file-sound r.head.species r.head.begin r.head.end r.content s.file; owned = s.owned; twelve = s.twelve; name = s.name }

  tied-stays : (b : Bool) (u : ℕ) (r : SegmentRecord) (x : SegmentOpening) → Tied b u r x
      → Tied b u (filing r.head (map f r.content)) (opening x.handle (map f x.content))
  tied-stays true u r x t = (
    t.0,
    t.1,
    λ j k lj lk e.
        let lj' : j < length x.content = subst (λ (m : ℕ). j < m) (length-map x.content f) lj in
        let lk' : k < length r.content = subst (λ (m : ℕ). k < m) (length-map r.content f) lk in
        let same : f (get_or x.content j 0) ≡ f (get_or r.content k 0) = sym (map_at f x.content j lj') ∙ e ∙ map_at f r.content k lk' in
        t.2 j k lj' lk' (sym (w.back (get_or x.content j 0)) ∙ ap f same ∙ w.back (get_or r.content k 0)),
  )
  tied-stays false u r x t = (t.0, t.1, t.2, t.3, t.4, ap (map f) t.5)

  placed-stays : (u : ℕ) (rs : List (Option SegmentRecord)) (x : SegmentOpening) (p : Option ℕ) → Placed u rs x p
      → Placed u (map (renumbered_record f) rs) (opening x.handle (map f x.content)) p
  placed-stays u rs x none t = t
  placed-stays u rs x (some p) t =
      let r = t.0 in
      (filing r.head (map f r.content), get_or-map (renumbered_record f) rs p none ∙ ap (renumbered_record f) t.1, tied-stays x.handle.permit u r x t.2)

  entry-sound : (u : ℕ) (rs : List (Option SegmentRecord)) (x : Option SegmentOpening) → SoundEntry n u rs x → SoundEntry n u (map (renumbered_record f) rs) (renumbered_opening f x)
  entry-sound u rs none s = tt
  entry-sound u rs (some x) s =
      record {
        file = file-sound x.handle.species (value x.handle 0) (value x.handle 1) x.content s.file;
        eight = s.eight;
        works = s.works;
        points = s.points;
        twelve = s.twelve;
        title = s.title;
        placed = placed-stays u rs x x.handle.place s.placed;
      }

-- "Every call leaves sound tables sound."
pub sound-renumbered : (f : ℕ → ℕ) (h : SegmentHouse) → Exchange h.segments f → SoundHouse h → SoundHouse (renumbered f h)
sound-renumbered f h w s =
    let n = h.segments in
    record {
      least = s.least;
      most = s.most;
      places = length-map h.records (renumbered_record f) ∙ s.places;
      entries = length-map h.openings (renumbered_opening f) ∙ s.entries;
      once = λ g. subst (λ (k : ℕ). k ≤ 1) (sym (mentions-renumbered n f w h g)) (s.once (f g));
      records = λ p. subst (SoundPlace n) (sym (get_or-map (renumbered_record f) h.records p none)) (place-sound n f w (get_or h.records p none) (s.records p));
      openings = λ i. subst (SoundEntry n (user_of i) (map (renumbered_record f) h.records)) (sym (get_or-map (renumbered_opening f) h.openings i none))
          (entry-sound n f w (user_of i) h.records (get_or h.openings i none) (s.openings i));
      alone = subst Alone (sym (handles-stay f h.openings)) s.alone;
      own = λ u name. subst (Single (passes (is_own u name))) (sym (heads-stay f h.records)) (s.own u name);
      public = λ name. subst (Single (passes (is_public name))) (sym (heads-stay f h.records)) (s.public name);
    }

-- ---- what users know

module _ (s s' : List ℕ) (f : ℕ → ℕ) (h : SegmentHouse) (w : Exchange h.segments f) (ok : SoundHouse h) (carries : Carries f h s s') where
  place_same : (p : ℕ) (r : Option SegmentRecord) → get_or h.records p none ≡ r → SoundPlace h.segments r → view_place s' (renumbered_record f r) ≡ view_place s r
  place_same p none e k = refl
  place_same p (some r) e k =
      ap (λ (l : List ℕ). some (filing r.head l))
      (file-renumbered h.segments f w s s' h.segments r.head.species r.head.begin r.head.end r.content k.file
      (λ g t. carries g (record-lists h g p (subst (λ (q : Option SegmentRecord). T (is_in g (record_segments q))) (sym e) t))))

  shared_same : (p : Option ℕ) (l : List ℕ)
      → map (λ g. is_in g (place_segments (map (renumbered_record f) h.records) p)) (map f l) ≡ map (λ g. is_in g (place_segments h.records p)) l
  shared_same p [] = refl
  shared_same p (g ∷ l) =
      ap₂ {C = List Bool} (λ a b. a ∷ b)
      (ap (λ (k : List ℕ). is_in (f g) k) (place-renumbered h.segments f w h.records p) ∙ in-renumbered h.segments f w (f g) (place_segments h.records p)
      ∙ ap (λ (k : ℕ). is_in k (place_segments h.records p)) (w.back g))
      (shared_same p l)

  entry-same : (i u : ℕ) (x : Option SegmentOpening) → get_or h.openings i none ≡ x → SoundEntry h.segments u h.records x
      → view_entry s' (map (renumbered_record f) h.records) (renumbered_opening f x) ≡ view_entry s h.records x
  entry-same i u none e k = refl
  entry-same i u (some x) e k =
      ap₂ (λ (l : List ℕ) (b : List Bool). some (opening x.handle (body l b)))
      (file-renumbered h.segments f w s s' h.segments x.handle.species (value x.handle 0) (value x.handle 1) x.content k.file
      (λ g t. carries g (opening-lists h g i (subst (λ (q : Option SegmentOpening). T (is_in g (opening_segments q))) (sym e) t))))
      (shared_same x.handle.place x.content)

  -- "Every file reads the same afterwards."
  pub moved : view_house s' (renumbered f h) ≡ view_house s h
  moved =
      ap₂ (λ a b. house h.segments a b)
      (map-after (view_place s') (renumbered_record f) (view_place s) h.records none (λ p l. place_same p (get_or h.records p none) refl (ok.records p)))
      (map-after (view_entry s' (map (renumbered_record f) h.records)) (renumbered_opening f) (view_entry s h.records) h.openings none
      (λ i l. entry-same i (user_of i) (get_or h.openings i none) refl (ok.openings i)))
