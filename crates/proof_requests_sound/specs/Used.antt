-- An opening stays sound when a pointer moves, it is renamed, or its first or last element leaves. Assumes nothing.
use Rattle.std.specs.Prelude.{ℕ, ◌+◌, ◌-◌, ◌≤◌, ◌<◌, ◌≡◌, refl, ◌≢◌, List, T, length, get_or, take, drop}
use Rattle.std.proofs.Common.{arith, sym, ap, ap₂, ◌∙◌, subst₂, ⊎_elim, length-set, length-take, length-drop, get_or-take, get_or-drop}
use Rattle.std.proofs.Math.Option.{none, some}
use Rattle.combine.specs.Laws.Numbers.{le-or-lt}
use Rattle.names.specs.Names.{name_of}
use Rattle.placing.specs.Sizes.{greatest_end}
use Rattle.placing.specs.Placing.{stretch_of, held_of}
use Rattle.placing.specs.Laws.Sized.{stretch-mono}
use Rattle.rules.specs.Headings.{Handle, opening, value, moved, named, holds}
use Rattle.rules.specs.Effects.{Deed, stays, first_leaves, last_leaves}
use Rattle.segments.specs.Free.{SegmentRecord, SegmentOpening, SegmentHouse}
use Rattle.segments.specs.Deeds.{segments_after}
use Rattle.segments.specs.Laws.Sound.{SoundFile, SoundOpen, OneStretch}
use Rattle.proof_requests_sound.specs.Names.{title-of-bytes, twelve-of-bytes}
use Rattle.placing.specs.Laws.Held.{held_none, held-from-next, dropped, held-to-last}
use Rattle.proof_requests_sound.specs.Tied.{value-here, value-else, points_kept, works-kept, place_or0, placed-still, placed-work}
use Rattle.proof_requests_sound.specs.Ranges.{range-take, range-drop}

module _ (h : SegmentHouse) (u : ℕ) (x : SegmentOpening) (f : SoundOpen h.segments u h.records x) where
  abbrev old : Handle
  old = x.handle

  abbrev species : ℕ
  species = x.handle.species

  abbrev begin : ℕ
  begin = value x.handle 0

  abbrev end : ℕ
  end = value x.handle 1

  -- the opening with another handle, after a deed
  abbrev pub after : Handle → Deed → SegmentOpening
  after n d = opening n (segments_after h x n d)

  pub kept-moves : (p v q : ℕ) → p ≢ 0 → p ≢ 1 → v ≤ value old q → (p ≡ 2 → 1 ≤ begin → 1 ≤ v)
      → SoundOpen h.segments u h.records (after (moved old p v) stays)
  kept-moves p v q p0 p1 l k =
      let e0 : value (moved old p v) 0 ≡ begin = value-else old p v 0 (λ z. p0 (sym z)) in
      let e1 : value (moved old p v) 1 ≡ end = value-else old p v 1 (λ z. p1 (sym z)) in
      record {
        file = rw (e0, e1) f.file;
        eight = length-set old.pointers p v ∙ f.eight;
        works = works-kept old p v f.eight f.works (λ e. k e f.file.first);
        points = points_kept old p v f.points (omega (arith, f.points q));
        twelve = f.twelve;
        title = f.title;
        placed = placed-still u h.records x (after (moved old p v) stays) old.place refl refl refl e0 e1 refl f.placed;
      }

  pub kept-renames : (bytes : List ℕ) → T old.permit → SoundOpen h.segments u h.records (after (named old (name_of bytes)) stays)
  kept-renames bytes w = record {
    file = f.file;
    eight = f.eight;
    works = f.works;
    points = f.points;
    twelve = twelve-of-bytes bytes;
    title = title-of-bytes bytes;
    placed = placed-work u h.records x (after (named old (name_of bytes)) stays) old.place refl w refl (λ r e o. o) f.placed;
  }

  -- segments that the record has too stay at its stretches
  abbrev pub Stays : ℕ → ℕ → Deed → Type 0
  Stays p v d = (r : SegmentRecord) → get_or h.records (place_or0 old.place) none ≡ some r → OneStretch r x → OneStretch r (after (moved old p v) d)

  -- a work opening whose begin or end moves, or which stores
  pub kept-work : (p v : ℕ) (d : Deed) → T old.permit → (p ≡ 2 → 1 ≤ v) → v ≤ greatest_end
      → SoundFile h.segments species (value (moved old p v) 0) (value (moved old p v) 1) (segments_after h x (moved old p v) d)
      → Stays p v d → SoundOpen h.segments u h.records (after (moved old p v) d)
  kept-work p v d w k l file o = record {
    file = file;
    eight = length-set old.pointers p v ∙ f.eight;
    works = works-kept old p v f.eight f.works k;
    points = points_kept old p v f.points l;
    twelve = f.twelve;
    title = f.title;
    placed = placed-work u h.records x (after (moved old p v) d) old.place refl w refl o f.placed;
  }

  pub kept-first : T old.permit → begin < end → SoundOpen h.segments u h.records (after (moved old 0 (begin + 1)) first_leaves)
  kept-first w l =
      let n = moved old 0 (begin + 1) in
      let some-dropped = length x.content - holds n in
      let v0 : value n 0 ≡ begin + 1 = value-here old 0 (begin + 1) (omega (arith, f.eight)) in
      let v1 : value n 1 ≡ end = value-else old 0 (begin + 1) 1 (λ z. omega arith) in
      let hh : holds n ≡ held_of species (begin + 1) end = ap₂ (held_of species) v0 v1 in
      let le : held_of species (begin + 1) end ≤ held_of species begin end = (held-from-next species f.file.species begin f.file.first end l).0 in
      let ll : length (drop some-dropped x.content) ≡ held_of species (begin + 1) end = omega (arith, length-drop some-dropped x.content, f.file.each, hh, le) in
      kept-work 0 (begin + 1) first_leaves w (λ z. omega arith) (omega (arith, f.file.last))
      (subst₂ (λ (b e : ℕ). SoundFile h.segments species b e (drop some-dropped x.content)) (sym v0) (sym v1)
      (record {
        species = f.file.species;
        first = omega arith;
        order = omega arith;
        last = f.file.last;
        few = omega (arith, f.file.few, le);
        each = ll;
        range = range-drop h.segments some-dropped x.content f.file.range;
      }))
      (λ r er o j k jl kl q. ⊎_elim
      (λ p. absurd (omega (arith, ll, jl, held_none species (begin + 1) end p)))
      (λ p.
      let st : stretch_of species (value n 0) ≡ stretch_of species (begin + 1) = ap (stretch_of species) v0 in
      let dr = dropped species f.file.species begin f.file.first end (omega arith) p in
      let at : stretch_of species begin + (some-dropped + j) ≡ stretch_of r.head.species r.head.begin + k =
      o (some-dropped + j) k (omega (arith, length-drop some-dropped x.content)) kl (sym (get_or-drop some-dropped x.content j 0) ∙ q) in
      omega (arith, st, dr, hh, f.file.each, stretch-mono species f.file.species begin (begin + 1) (omega arith)))
      (le-or-lt end (begin + 1)))

  pub kept-last : T old.permit → begin < end → SoundOpen h.segments u h.records (after (moved old 1 (end - 1)) last_leaves)
  kept-last w l =
      let n = moved old 1 (end - 1) in
      let v0 : value n 0 ≡ begin = value-else old 1 (end - 1) 0 (λ z. omega arith) in
      let v1 : value n 1 ≡ end - 1 = value-here old 1 (end - 1) (omega (arith, f.eight)) in
      let hh : holds n ≡ held_of species begin (end - 1) = ap₂ (held_of species) v0 v1 in
      let le : held_of species begin (end - 1) ≤ held_of species begin end = (held-to-last species f.file.species begin f.file.first end l).0 in
      let ll : length (take (holds n) x.content) ≡ held_of species begin (end - 1) = omega (arith, length-take (holds n) x.content, f.file.each, hh, le) in
      kept-work 1 (end - 1) last_leaves w (λ z. omega arith) (omega (arith, f.file.last))
      (subst₂ (λ (b e : ℕ). SoundFile h.segments species b e (take (holds n) x.content)) (sym v0) (sym v1)
      (record {
        species = f.file.species;
        first = f.file.first;
        order = omega arith;
        last = omega (arith, f.file.last);
        few = omega (arith, f.file.few, le);
        each = ll;
        range = range-take h.segments (holds n) x.content f.file.range;
      }))
      (λ r er o j k jl kl q.
      rw v0 (o j k (omega (arith, jl, ll, le, f.file.each)) kl (sym (get_or-take (holds n) x.content j 0 (omega (arith, jl, ll, hh))) ∙ q)))
