-- An opening stays sound when a position gets a number, and so through every use. Assumes nothing.
use Rattle.std.specs.Prelude.{ℕ, ◌+◌, ◌≤◌, ◌<◌, ◌≡◌, ◌≢◌, Bool, not, List, T, length, get_or}
use Rattle.std.proofs.Common.{arith, sym, ap, ◌∙◌, subst, ⊎_elim, T_not}
use Rattle.std.proofs.Math.Decide.{ℕ_discrete}
use Rattle.std.proofs.Math.Option.{Option, none, some}
use Rattle.combine.specs.Lists.{is_in, put}
use Rattle.combine.specs.Laws.Numbers.{le-or-lt}
use Rattle.placing.specs.Sizes.{most_held, greatest_end}
use Rattle.placing.specs.Placing.{stretch_of, held_of}
use Rattle.rules.specs.Headings.{Handle, value, moved, slot_in}
use Rattle.rules.specs.Effects.{stores, Use}
use Rattle.segments.specs.Free.{SegmentRecord, SegmentOpening, SegmentHouse, record_segments}
use Rattle.segments.specs.Deeds.{takes_at, target}
use Rattle.segments.specs.Laws.Sound.{SoundFile, SoundOpen, OneStretch}
use Rattle.proof_requests_sound.specs.Uses.{Usable, asks, renames, moves, first, last, replaces, appends}
use Rattle.combine.specs.Laws.Put.{get_or-put-same, get_or-put-other}
use Rattle.combine.specs.Laws.Replaced.{length-put-in, length-put-end}
use Rattle.proof_requests_sound.specs.Counts.{in-at}
use Rattle.placing.specs.Laws.Held.{slot-within, slot-at-end, held-behind, held-grows}
use Rattle.proof_requests_sound.specs.Taken.{Target}
use Rattle.proof_requests_sound.specs.Tied.{value-here, value-else, place_or0}
use Rattle.proof_requests_sound.specs.Ranges.{put-inside, range-put}
use Rattle.proof_requests_sound.specs.Used.{after, Stays, kept-moves, kept-renames, kept-work, kept-first, kept-last}

module _ (h : SegmentHouse) (i u : ℕ) (x : SegmentOpening) (f : SoundOpen h.segments u h.records x) where
  abbrev old : Handle
  old = x.handle

  abbrev species : ℕ
  species = x.handle.species

  abbrev begin : ℕ
  begin = value x.handle 0

  abbrev end : ℕ
  end = value x.handle 1

  module _ (v : ℕ) (near : slot_in x.handle v ≤ length x.content) (g : Target h i x (slot_in x.handle v) (target h x v)) where
    abbrev list : List ℕ
    list = put x.content (slot_in old v) (target h x v)

    -- the segment that is stored into is none of the record's
    stored-stays : (p n : ℕ) → p ≢ 0 → Stays h u x f p (value old p + 1) (stores v n)
    stored-stays p n p0 = λ r er o j k jl kl q.
        let v0 : value (moved old p (value old p + 1)) 0 ≡ begin = value-else old p (value old p + 1) 0 (λ z. p0 (sym z)) in
        rw v0 (go r er o j k jl kl q (ℕ_discrete j (slot_in old v)))
      where
        go : (r : SegmentRecord) → get_or h.records (place_or0 old.place) none ≡ some r → OneStretch r x → (j k : ℕ) → j < length list → k < length r.content
            → get_or list j 0 ≡ get_or r.content k 0 → Dec (j ≡ slot_in old v) → stretch_of species begin + j ≡ stretch_of r.head.species r.head.begin + k
        go r er o j k jl kl q (yes e) =
            let z : target h x v ≡ get_or r.content k 0 =
            sym (get_or-put-same x.content (slot_in old v) (target h x v) 0 near) ∙ ap (λ (a : ℕ). get_or list a 0) (sym e) ∙ q in
            absurd (T_not (is_in (target h x v) r.content)
            (subst (λ (y : Option SegmentRecord). T (not (is_in (target h x v) (record_segments y)))) er (g.no_record (place_or0 old.place)))
            (in-at (target h x v) r.content k kl (sym z)))
        go r er o j k jl kl q (no d) =
            o j k (put-inside x.content (slot_in old v) (target h x v) j near jl d) kl
            (sym (get_or-put-other x.content (slot_in old v) j (target h x v) 0 near d) ∙ q)

    -- b and e are begin and end afterwards
    stored-file : (b e : ℕ) → b ≡ begin → begin ≤ e → e ≤ greatest_end → held_of species begin e ≤ most_held → length list ≡ held_of species begin e
        → SoundFile h.segments species b e list
    stored-file b e eb order small few each = subst (λ (c : ℕ). SoundFile h.segments species c e list) (sym eb) (record {
      species = f.file.species;
      first = f.file.first;
      order = order;
      last = small;
      few = few;
      each = each;
      range = range-put h.segments x.content (slot_in old v) (target h x v) near f.file.range g.small;
    })

  kept-replaces : (p n : ℕ) → T old.permit → p ≢ 0 → p ≢ 1 → begin ≤ value old p → value old p < end
      → Target h i x (slot_in old (value old p)) (target h x (value old p))
      → SoundOpen h.segments u h.records (after h u x f (moved old p (value old p + 1)) (stores (value old p) n))
  kept-replaces p n w p0 p1 l r g =
      let v = value old p in
      let v0 : value (moved old p (v + 1)) 0 ≡ begin = value-else old p (v + 1) 0 (λ z. p0 (sym z)) in
      let v1 : value (moved old p (v + 1)) 1 ≡ end = value-else old p (v + 1) 1 (λ z. p1 (sym z)) in
      let near : slot_in old v < length x.content = rw f.file.each (slot-within species f.file.species begin f.file.first end v l r) in
      kept-work h u x f p (v + 1) (stores v n) w (λ e. omega arith) (omega (arith, f.file.last))
      (subst (λ (e : ℕ). SoundFile h.segments species (value (moved old p (v + 1)) 0) e (put x.content (slot_in old v) (target h x v))) (sym v1)
      (stored-file v (omega arith) g _ end v0 f.file.order f.file.last f.file.few
      (length-put-in x.content (slot_in old v) (target h x v) near ∙ f.file.each)))
      (stored-stays v (omega arith) g p n p0)

  kept-appends : (n : ℕ) → T old.permit → begin ≤ end → end < greatest_end → held_of species begin (end + 1) ≤ most_held
      → Target h i x (slot_in old end) (target h x end)
      → SoundOpen h.segments u h.records (after h u x f (moved old 1 (end + 1)) (stores end n))
  kept-appends n w l r few g =
      let j = slot_in old end in
      let v0 : value (moved old 1 (end + 1)) 0 ≡ begin = value-else old 1 (end + 1) 0 (λ z. omega arith) in
      let v1 : value (moved old 1 (end + 1)) 1 ≡ end + 1 = value-here old 1 (end + 1) (omega (arith, f.eight)) in
      let near : j ≤ length x.content = rw f.file.each (slot-at-end species f.file.species begin f.file.first end l) in
      let grows : length x.content ≤ j + 1 = rw f.file.each (held-grows species f.file.species begin f.file.first end l) in
      let held : held_of species begin (end + 1) ≡ j + 1 = held-behind species f.file.species begin f.file.first end l in
      let each : length (put x.content j (target h x end)) ≡ held_of species begin (end + 1) = ⊎_elim
      (λ p. omega (arith, length-put-end x.content j (target h x end) p))
      (λ p. omega (arith, length-put-in x.content j (target h x end) p))
      (le-or-lt (length x.content) j) in
      kept-work h u x f 1 (end + 1) (stores end n) w (λ z. omega arith) (omega arith)
      (subst (λ (e : ℕ). SoundFile h.segments species (value (moved old 1 (end + 1)) 0) e (put x.content j (target h x end))) (sym v1)
      (stored-file end near g _ (end + 1) v0 (omega arith) (omega arith) few each))
      (stored-stays end near g 1 n (λ z. omega arith))

  -- every use
  pub kept-open : (room : Bool) (w : Use) → Usable old (takes_at h.records x) room w
      → ((v : ℕ) → (T (takes_at h.records x v) → T room) → Target h i x (slot_in old v) (target h x v))
      → SoundOpen h.segments u h.records (after h u x f w.handle w.deed)
  kept-open room w (asks n) g = f
  kept-open room w (renames bytes p) g = kept-renames h u x f bytes p
  kept-open room w (moves t p v q p0 p1 l r k) g = kept-moves h u x f p v q p0 p1 l r
  kept-open room w (first t p l k) g = kept-first h u x f p l
  kept-open room w (last t p l k) g = kept-last h u x f p l
  kept-open room w (replaces p n t p0 p1 l r k b) g = kept-replaces p n t p0 p1 l r (g (value old p) k)
  kept-open room w (appends n t l r c k b) g = kept-appends n t l r c (g end k)
