-- A number is stored at a position: the cells that change, and what users know of the opening afterwards. Assumes nothing.
use Rattle.std.specs.Prelude.{ℕ, ◌+◌, ◌-◌, ◌*◌, ◌^◌, ◌≤◌, ◌<◌, ◌≡◌, ◌≢◌, Bool, true, false, not, cond, List, length, get_or}
use Rattle.std.proofs.Common.{mod-eq_of_lt, sym, ap₂, ◌∙◌, ⊎_elim}
use native.Mathlib.Omega.{arith}
use Rattle.std.proofs.Math.Path.{refl, ap}
use Rattle.std.proofs.Math.Option.{Option, none, some}
use Rattle.std.proofs.Math.Dec.{T, not_T, nleb→lt, leb→le}
use Rattle.combine.specs.Lists.{is_in, put}
use Rattle.combine.specs.Laws.Numbers.{eq-or-ne, le-or-lt}
use Rattle.placing.specs.Sizes.{segment_cells, greatest_species, user_of, width_of}
use Rattle.placing.specs.Placing.{segment, position, stretch_of, slot_of}
use Rattle.placing.specs.Laws.Sized.{stretch-mono}
use Rattle.store.specs.Store.{element_at, zeroed, copied, segment_of, elements_in}
use Rattle.store.specs.Laws.Elements.{Within, Outside, element-elsewhere, put-length, put-outside, put_same, put-beside, zeroed-length, zeroed-outside, copied-length, copied-outside, copied-element}
use Rattle.store.specs.Laws.Files.{element_in, segment-put, segment-kept}
use Rattle.rules.specs.Headings.{Handle, value, moved, slot_in}
use Rattle.rules.specs.Effects.{stores}
use Rattle.segments.specs.Free.{SegmentOpening, SegmentHouse, place_segments, has_room}
use Rattle.segments.specs.Deeds.{lacks, segment_at, shares_at, takes_at, target, segments_after, prepared, store_after}
use Rattle.segments.specs.Laws.Sound.{SoundOpen, SoundHouse}
use Rattle.model.specs.Model.{body_after}
use Rattle.model.specs.View.{view_opening}
use Rattle.combine.specs.Laws.Tests.{false_of}
use Rattle.placing.specs.Laws.Held.{slot-within, slot-at-end}
use Rattle.proof_requests_sound.specs.Tied.{value-here, value-else}
use Rattle.proof_requests_sound.specs.Taken.{Target, target-of}
use Rattle.proof_requests_sound.specs.Opened.{sound-at}
use Rattle.combine.specs.Laws.Mapped.{map-put}
use Rattle.proof_model.specs.Elements.{elements-replaced, elements-appended}
use Rattle.proof_model.specs.Deeds.{shared_with, body_seen}

-- ---- segment g made ready, f being the one that is copied

module _ (st : List ℕ) (f g : ℕ) (ready : Within (segment g) st) where
  abbrev readied : Bool → Bool → List ℕ
  readied lacking shared = cond lacking (zeroed st (segment g)) (cond shared (copied st (segment f) (segment g)) st)

  readied-length : (a b : Bool) → (T (not a) → Within (segment f) st) → length (readied a b) ≡ length st
  readied-length true b m = zeroed-length st (segment g) ready
  readied-length false true m = copied-length st (segment f) (segment g) (m tt) ready
  readied-length false false m = refl

  readied-outside : (a b : Bool) → (T (not a) → Within (segment f) st) → (k : ℕ) → Outside (segment g) k → get_or (readied a b) k 0 ≡ get_or st k 0
  readied-outside true b m = zeroed-outside st (segment g) ready
  readied-outside false true m = copied-outside st (segment f) (segment g) (m tt) ready
  readied-outside false false m = λ k o. refl

  readied-element : (a b : Bool) → T (not a) → Within (segment f) st → (T (not b) → g ≡ f) → (s : ℕ) → s ≤ greatest_species → (v : ℕ)
      → element_at (readied a b) s (segment g) (position v) ≡ element_at st s (segment f) (position v)
  readied-element true b t m e s h v = absurd t
  readied-element false true t m e s h v = copied-element st (segment f) (segment g) m ready s h (position v)
  readied-element false false t m e s h v = ap (λ (z : ℕ). element_at st s (segment z) (position v)) (e tt)

-- ---- a store at position v of the opening x of entry i

module _ (st : List ℕ) (h : SegmentHouse) (sound : SoundHouse h) (fits : segment_cells * h.segments ≤ length st) (i : ℕ) (x : SegmentOpening)
    (ix : get_or h.openings i none ≡ some x) (v n : ℕ) (low : value x.handle 0 ≤ v) (high : v ≤ value x.handle 1)
    (room : T (takes_at h.records x v) → T (has_room h)) where
  abbrev old : Handle
  old = x.handle

  abbrev species : ℕ
  species = x.handle.species

  abbrev begin : ℕ
  begin = value x.handle 0

  abbrev end : ℕ
  end = value x.handle 1

  abbrev goal : ℕ
  goal = target h x v

  abbrev pub stored : List ℕ
  stored = store_after st h x (stores v n)

  abbrev listed : List ℕ
  listed = put x.content (slot_in x.handle v) (target h x v)

  before : SoundOpen h.segments (user_of i) h.records x
  before = sound-at h sound i x ix

  pub aim : Target h i x (slot_in x.handle v) (target h x v)
  aim = target-of h sound.once i x ix before.file.range v room

  near : slot_in x.handle v ≤ length x.content
  near = rw before.file.each (⊎_elim
      (λ l. let e : v ≡ end = omega arith in rw e (slot-at-end species before.file.species begin before.file.first end before.file.order))
      (λ l. let z = slot-within species before.file.species begin before.file.first end v low l in omega arith)
      (le-or-lt end v))

  ready : Within (segment goal) st
  ready = let l = aim.small in omega arith

  source : T (not (lacks x v)) → Within (segment (segment_at x v)) st
  unfolding segment_of
  source t = let l = before.file.range (slot_in x.handle v) (nleb→lt (length x.content) (slot_in x.handle v) t) in omega arith

  prepared-length : length (prepared st h x v) ≡ length st
  unfolding prepared
  prepared-length = readied-length st (segment_at x v) goal ready (lacks x v) (shares_at h.records x v) source

  pub stored-length : length stored ≡ length st
  stored-length = put-length (prepared st h x v) species (segment goal) (position v) n ∙ prepared-length

  -- no cell changes but the target's
  pub stored-outside : (k : ℕ) → Outside (segment goal) k → get_or stored k 0 ≡ get_or st k 0
  unfolding prepared
  stored-outside k o =
      put-outside (prepared st h x v) species before.file.species (segment goal) (position v) n k o
      ∙ readied-outside st (segment_at x v) goal ready (lacks x v) (shares_at h.records x v) source k o

  still-ready : Within (segment goal) (prepared st h x v)
  still-ready = rw prepared-length ready

  -- ---- the elements

  new_element : n < 2 ^ width_of species → element_in stored listed species begin v ≡ n
  new_element small =
      ap (λ (g : ℕ). element_at stored species (segment g) (position v)) (segment-put x.content species begin (slot_in x.handle v) goal near v refl)
      ∙ put_same (prepared st h x v) species before.file.species (segment goal) (position v) n still-ready ∙ mod-eq_of_lt small

  in_place : T (not (lacks x v)) → T (not (shares_at h.records x v)) → goal ≡ segment_at x v
  unfolding target
  in_place a b = rw (false_of (lacks x v) a, false_of (shares_at h.records x v) b) refl

  -- another position of the same stretch
  beside : (y : ℕ) → begin ≤ y → y < end → y ≢ v → slot_in x.handle y ≡ slot_in x.handle v
      → element_at stored species (segment goal) (position y) ≡ element_in st x.content species begin y
  unfolding prepared segment_of slot_of
  beside y l r d q =
      let held = slot-within species before.file.species begin before.file.first end y l r in
      let some-there : T (not (lacks x v)) = not_T (lacks x v) (λ t. let z = leb→le (length x.content) (slot_in x.handle v) t in omega (arith, before.file.each)) in
      let one : stretch_of species v ≡ stretch_of species y =
      omega (arith, q, stretch-mono species before.file.species begin v low, stretch-mono species before.file.species begin y l) in
      put-beside (prepared st h x v) species before.file.species (segment goal) (position v) n (position y) still-ready (omega (arith, before.file.first)) (omega (arith, before.file.first)) one d
      ∙ readied-element st (segment_at x v) goal ready (lacks x v) (shares_at h.records x v) some-there (source some-there) (in_place some-there) species before.file.species y
      ∙ ap (λ (k : ℕ). element_at st species (segment (get_or x.content k 0)) (position y)) (sym q)

  -- a position of another stretch
  elsewhere : (y : ℕ) → begin ≤ y → y < end → slot_in x.handle y ≢ slot_in x.handle v
      → element_at stored species (segment (segment_of x.content species begin y)) (position y) ≡ element_in st x.content species begin y
  unfolding segment_of
  elsewhere y l r d =
      let held = slot-within species before.file.species begin before.file.first end y l r in
      element-elsewhere st stored species before.file.species (segment goal) (segment (segment_of x.content species begin y)) (position y) stored-outside
      (aim.apart (slot_in x.handle y) (omega (arith, before.file.each)) d)

  other-elements : (y : ℕ) → begin ≤ y → y < end → y ≢ v → element_in stored listed species begin y ≡ element_in st x.content species begin y
  other-elements y l r d = ⊎_elim
      (λ q. ap (λ (g : ℕ). element_at stored species (segment g) (position y)) (segment-put x.content species begin (slot_in x.handle v) goal near y q) ∙ beside y l r d q)
      (λ q. ap (λ (g : ℕ). element_at stored species (segment g) (position y)) (segment-kept x.content species begin (slot_in x.handle v) goal near y q) ∙ elsewhere y l r q)
      (eq-or-ne (slot_in x.handle y) (slot_in x.handle v))

  -- ---- what users know of the opening

  abbrev rsegs : List ℕ
  rsegs = place_segments h.records x.handle.place

  not-shared : (p : Option ℕ) → T (not (is_in goal (place_segments h.records p)))
  not-shared none = tt
  not-shared (some p) = aim.no_record p

  flags : shared_with rsegs listed ≡ put (shared_with rsegs x.content) (slot_in x.handle v) false
  flags =
      map-put (λ g. is_in g rsegs) x.content (slot_in x.handle v) goal
      ∙ ap (put (shared_with rsegs x.content) (slot_in x.handle v)) (false_of (is_in goal rsegs) (not-shared x.handle.place))

  pub replaced-seen : n < 2 ^ width_of species → (p : ℕ) → p ≢ 0 → p ≢ 1 → v < end
      → let m = moved old p (v + 1) in body_seen stored rsegs m (segments_after h x m (stores v n)) ≡ body_after (view_opening st h.records x) m (stores v n)
  replaced-seen small p p0 p1 l =
      let elements = ap₂ (elements_in stored listed species) (value-else old p (v + 1) 0 (λ w. p0 (sym w))) (value-else old p (v + 1) 1 (λ w. p1 (sym w)))
      ∙ elements-replaced st stored x.content listed species begin end v n low (new_element small) other-elements l in
      λ k. record { elements = elements k; shared = flags k }

  pub appended-seen : n < 2 ^ width_of species → v ≡ end
      → let m = moved old 1 (v + 1) in body_seen stored rsegs m (segments_after h x m (stores v n)) ≡ body_after (view_opening st h.records x) m (stores v n)
  appended-seen small q =
      let elements = ap₂ (elements_in stored listed species) (value-else old 1 (v + 1) 0 (λ w. omega arith)) (value-here old 1 (v + 1) (omega (arith, before.eight)))
      ∙ elements-appended st stored x.content listed species begin end v n low (new_element small) other-elements q in
      λ k. record { elements = elements k; shared = flags k }
