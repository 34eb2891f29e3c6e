-- A deed that stores nothing: what users know of the opening after it, and the element that is told. Assumes nothing.
use Rattle.std.specs.Prelude.{ℕ, ◌+◌, ◌-◌, ◌<◌, ◌≡◌, refl, ◌≢◌, Bool, List, map, length, take, drop}
use Rattle.std.proofs.Common.{arith, sym, ap, ap₂, ◌∙◌}
use Rattle.std.proofs.lemmas.List.{length-map}
use Rattle.combine.specs.Lists.{is_in}
use Rattle.placing.specs.Placing.{held_of}
use Rattle.store.specs.Store.{elements_in}
use Rattle.store.specs.Laws.Files.{elements-at}
use Rattle.rules.specs.Headings.{Handle, value, moved, holds}
use Rattle.rules.specs.Effects.{first_leaves, last_leaves, Delivered, plain, element}
use Rattle.segments.specs.Free.{SegmentOpening, SegmentHouse, place_segments}
use Rattle.segments.specs.Deeds.{segments_after, delivered_by_segments}
use Rattle.segments.specs.Laws.Sound.{SoundOpen}
use Rattle.model.specs.Model.{Body, body, body_after, delivered_by_model}
use Rattle.model.specs.View.{view_opening}
use Rattle.proof_requests_sound.specs.Uses.{Inside}
use Rattle.proof_requests_sound.specs.Tied.{value-here, value-else}
use Rattle.combine.specs.Laws.Mapped.{map-take, map-drop}
use Rattle.proof_model.specs.Elements.{elements-but-first, elements-but-last}

-- which of the segments gs are of the record's rsegs
abbrev pub shared_with : List ℕ → List ℕ → List Bool
shared_with rsegs gs = map (λ g. is_in g rsegs) gs

-- what users know of an opening with the handle n and the segments gs
abbrev pub body_seen : List ℕ → List ℕ → Handle → List ℕ → Body
body_seen s rsegs n gs = body (elements_in s gs n.species (value n 0) (value n 1)) (shared_with rsegs gs)

module _ (s : List ℕ) (h : SegmentHouse) (u : ℕ) (x : SegmentOpening) (f : SoundOpen h.segments u h.records x) where
  abbrev old : Handle
  old = x.handle

  abbrev species : ℕ
  species = x.handle.species

  abbrev begin : ℕ
  begin = value x.handle 0

  abbrev end : ℕ
  end = value x.handle 1

  abbrev rsegs : List ℕ
  rsegs = place_segments h.records x.handle.place

  -- the element that is told
  pub told-seen : (t : Delivered) → Inside x.handle t → delivered_by_segments s x t ≡ delivered_by_model (view_opening s h.records x) t
  told-seen (plain n) k = refl
  told-seen (element v) k = sym (elements-at s x.content species begin end v k.0 k.1)

  -- another pointer than begin and end moves
  pub moved-seen : (p v : ℕ) → p ≢ 0 → p ≢ 1 → body_seen s rsegs (moved old p v) x.content ≡ body_seen s rsegs old x.content
  moved-seen p v p0 p1 = λ i. record {
    elements = elements_in s x.content species (value-else old p v 0 (λ w. p0 (sym w)) i) (value-else old p v 1 (λ w. p1 (sym w)) i);
    shared = shared_with rsegs x.content;
  }

  pub first-seen : begin < end
      → let n = moved old 0 (begin + 1) in body_seen s rsegs n (segments_after h x n first_leaves) ≡ body_after (view_opening s h.records x) n first_leaves
  first-seen l =
      let n = moved old 0 (begin + 1) in
      let gs = x.content in
      let v0 : value n 0 ≡ begin + 1 = value-here old 0 (begin + 1) (omega (arith, f.eight)) in
      let v1 : value n 1 ≡ end = value-else old 0 (begin + 1) 1 (λ w. omega arith) in
      let elements : elements_in s (drop (length gs - holds n) gs) species (value n 0) (value n 1) ≡ drop 1 (elements_in s gs species begin end) =
      ap₂ (λ (b e : ℕ). elements_in s (drop (length gs - held_of species b e) gs) species b e) v0 v1
      ∙ elements-but-first s gs species f.file.species begin end f.file.first l f.file.each in
      let flags : shared_with rsegs (drop (length gs - holds n) gs) ≡ drop (length (shared_with rsegs gs) - holds n) (shared_with rsegs gs) =
      map-drop (λ g. is_in g rsegs) (length gs - holds n) gs
      ∙ ap (λ (k : ℕ). drop (k - holds n) (shared_with rsegs gs)) (sym (length-map gs (λ g. is_in g rsegs))) in
      λ i. record { elements = elements i; shared = flags i }

  pub last-seen : begin < end
      → let n = moved old 1 (end - 1) in body_seen s rsegs n (segments_after h x n last_leaves) ≡ body_after (view_opening s h.records x) n last_leaves
  last-seen l =
      let n = moved old 1 (end - 1) in
      let gs = x.content in
      let v0 : value n 0 ≡ begin = value-else old 1 (end - 1) 0 (λ w. omega arith) in
      let v1 : value n 1 ≡ end - 1 = value-here old 1 (end - 1) (omega (arith, f.eight)) in
      let whole = elements_in s gs species begin end in
      let elements : elements_in s (take (holds n) gs) species (value n 0) (value n 1) ≡ take (length whole - 1) whole =
      ap₂ (λ (b e : ℕ). elements_in s (take (held_of species b e) gs) species b e) v0 v1
      ∙ elements-but-last s gs species f.file.species begin end f.file.first l in
      λ i. record { elements = elements i; shared = map-take (λ g. is_in g rsegs) (holds n) gs i }
