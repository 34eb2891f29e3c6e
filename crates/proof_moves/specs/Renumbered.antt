-- Segments get other numbers, and their cells go along: how often each is listed, and what a file's elements are. Assumes nothing.
use Prim.Native.Nat.{ℕ, zero, suc, ◌+◌, ◌*◌, ◌<◌}
use Rattle.std.proofs.Common.{arith, le_of_suc-le-suc, not-suc-le-zero, sym, ap₂, ◌∙◌}
use Rattle.std.proofs.Math.Decide.{ℕ_discrete}
use Rattle.std.specs.Prelude.{◌≡◌, refl, Bool, ◌||◌, cond, T, eqb, get_or}
use Rattle.std.proofs.Math.Path.{ap}
use Rattle.std.proofs.Math.Option.{Option, none, some}
use mathlib.Core.List.{List, [], ◌∷◌, map}
use Rattle.std.proofs.Math.ListN.{length}
use Rattle.combine.specs.Lists.{total, is_in}
use Rattle.placing.specs.Sizes.{segment_cells}
use Rattle.placing.specs.Placing.{segment, position, slot_of}
use Rattle.store.specs.Store.{element_at, segment_of, elements_in}
use Rattle.store.specs.Laws.Elements.{element-of-cells}
use Rattle.store.specs.Laws.Files.{elements-ext}
use Rattle.rules.specs.Headings.{opening}
use Rattle.rules.specs.House.{house}
use Rattle.segments.specs.Free.{SegmentRecord, SegmentOpening, SegmentHouse, place_segments}
use Rattle.segments.specs.Moves.{renumbered_record}
use Rattle.segments.specs.Laws.Sound.{times, times_in_record, times_but, times_in_opening, mentions, SoundFile}
use Rattle.combine.specs.Laws.Tests.{eqb-ne, eqb-eq}
use Rattle.proof_requests_sound.specs.Counts.{in-at}
use Rattle.placing.specs.Laws.Held.{slot-within}
use Rattle.proof_moves.specs.Moves.{Exchange}

-- ---- with other numbers

abbrev pub renumbered_opening : (ℕ → ℕ) → Option SegmentOpening → Option SegmentOpening
renumbered_opening f none = none
renumbered_opening f (some x) = some (opening x.handle (map f x.content))

abbrev pub renumbered : (ℕ → ℕ) → SegmentHouse → SegmentHouse
renumbered f h = house h.segments (map (renumbered_record f) h.records) (map (renumbered_opening f) h.openings)

pub map_at : (f : ℕ → ℕ) (l : List ℕ) (k : ℕ) → k < length l → get_or (map f l) k 0 ≡ f (get_or l k 0)
map_at f [] k h = absurd (not-suc-le-zero h)
map_at f (x ∷ xs) zero h = refl
map_at f (x ∷ xs) (suc k) h = map_at f xs k (le_of_suc-le-suc h)

module _ (n : ℕ) (f : ℕ → ℕ) (w : Exchange n f) where
  -- ---- how often a segment is listed

  same_test : (g x : ℕ) → eqb g (f x) ≡ eqb (f g) x
  same_test g x = go (ℕ_discrete g (f x))
    where
      go : Dec (g ≡ f x) → eqb g (f x) ≡ eqb (f g) x
      go (yes e) = eqb-eq g (f x) e ∙ sym (eqb-eq (f g) x (ap f e ∙ w.back x))
      go (no d) = eqb-ne g (f x) d ∙ sym (eqb-ne (f g) x (λ e. d (sym (w.back g) ∙ ap f e)))

  pub in-renumbered : (g : ℕ) (l : List ℕ) → is_in g (map f l) ≡ is_in (f g) l
  in-renumbered g [] = refl
  in-renumbered g (x ∷ xs) = ap₂ (λ (a b : Bool). a || b) (same_test g x) (in-renumbered g xs)

  times-renumbered : (g : ℕ) (l : List ℕ) → times g (map f l) ≡ times (f g) l
  times-renumbered g [] = refl
  times-renumbered g (x ∷ xs) = ap₂ (λ (a b : ℕ). a + b) (ap (λ (b : Bool). cond b 1 0) (same_test g x)) (times-renumbered g xs)

  record-times : (g : ℕ) (r : Option SegmentRecord) → times_in_record g (renumbered_record f r) ≡ times_in_record (f g) r
  record-times g none = refl
  record-times g (some r) = times-renumbered g r.content

  pub place-renumbered : (rs : List (Option SegmentRecord)) (p : Option ℕ) → place_segments (map (renumbered_record f) rs) p ≡ map f (place_segments rs p)
  place-renumbered rs none = refl
  place-renumbered [] (some p) = refl
  place-renumbered (none ∷ rs) (some zero) = refl
  place-renumbered (some r ∷ rs) (some zero) = refl
  place-renumbered (r ∷ rs) (some (suc p)) = place-renumbered rs (some p)

  opening-times : (rs : List (Option SegmentRecord)) (g : ℕ) (x : Option SegmentOpening)
      → times_in_opening (map (renumbered_record f) rs) g (renumbered_opening f x) ≡ times_in_opening rs (f g) x
  opening-times rs g none = refl
  opening-times rs g (some x) =
      ap (λ (l : List ℕ). times_but g l (map f x.content)) (place-renumbered rs x.handle.place)
      ∙ ap₂ (λ (b : Bool) (k : ℕ). cond b 0 k) (in-renumbered g (place_segments rs x.handle.place)) (times-renumbered g x.content)

  total-map : {A : Type 0} (t u : A → ℕ) (v : A → A) (l : List A) → ((x : A) → t (v x) ≡ u x) → total t (map v l) ≡ total u l
  total-map t u v [] e = refl
  total-map t u v (x ∷ xs) e = ap₂ (λ (a b : ℕ). a + b) (e x) (total-map t u v xs e)

  -- each segment is listed as often as the one that goes there was
  pub mentions-renumbered : (h : SegmentHouse) (g : ℕ) → mentions (renumbered f h) g ≡ mentions h (f g)
  mentions-renumbered h g =
      ap₂ (λ (a b : ℕ). a + b) (total-map (times_in_record g) (times_in_record (f g)) (renumbered_record f) h.records (record-times g))
      (total-map (times_in_opening (map (renumbered_record f) h.records) g) (times_in_opening h.records (f g)) (renumbered_opening f) h.openings (opening-times h.records g))

  -- ---- users know the same

  module _ (s s' : List ℕ) where
    pub file-renumbered : (m sp b e : ℕ) (gs : List ℕ) → SoundFile m sp b e gs
        → ((g : ℕ) → T (is_in g gs) → (c : ℕ) → c < segment_cells → get_or s' (f g * segment_cells + c) 0 ≡ get_or s (g * segment_cells + c) 0)
        → elements_in s' (map f gs) sp b e ≡ elements_in s gs sp b e
    unfolding segment_of
    file-renumbered m sp b e gs ok moved = elements-ext s' s (map f gs) gs sp b e (λ x l r.
        let held = slot-within sp ok.species b ok.first e x l r in
        let k : ℕ = slot_of sp b x in
        let lk : k < length gs = omega (arith, ok.each) in
        ap (λ (g : ℕ). element_of s' g x) (map_at f gs k lk)
        ∙ element-of-cells s' s sp ok.species (segment (f (get_or gs k 0))) (segment (get_or gs k 0)) (position x) (moved (get_or gs k 0) (in-at (get_or gs k 0) gs k lk refl)))
      where
        element_of : List ℕ → ℕ → ℕ → ℕ
        element_of st g x = element_at st sp (segment g) (position x)
