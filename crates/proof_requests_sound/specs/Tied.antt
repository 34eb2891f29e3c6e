-- The pointers and the record of an opening whose handle or list changes. Assumes nothing.
use Rattle.std.specs.Prelude.{ℕ, ◌≤◌, ◌<◌, ◌≡◌, ◌≢◌, Bool, true, false, List, T, length, get_or}
use Rattle.std.proofs.Common.{arith, sym, ◌∙◌, subst, get_or-set_same, get_or-set_other}
use Rattle.std.proofs.Math.Decide.{ℕ_discrete}
use Rattle.std.proofs.Math.Option.{Option, none, some}
use Rattle.placing.specs.Sizes.{greatest_end}
use Rattle.rules.specs.Headings.{Handle, value, moved}
use Rattle.segments.specs.Free.{SegmentRecord, SegmentOpening}
use Rattle.segments.specs.Laws.Sound.{OneStretch, Tied, Placed}
use Rattle.combine.specs.Laws.Replaced.{either}

-- ---- pointer p moves to v

module _ (h : Handle) (p v : ℕ) where
  pub value-here : p < length h.pointers → value (moved h p v) p ≡ v
  value-here l = get_or-set_same h.pointers p v 0 l

  pub value-else : (q : ℕ) → q ≢ p → value (moved h p v) q ≡ value h q
  value-else q d = get_or-set_other h.pointers p q v 0 d

  pub points_kept : ((q : ℕ) → value h q ≤ greatest_end) → v ≤ greatest_end → (q : ℕ) → value (moved h p v) q ≤ greatest_end
  points_kept f l q = either (λ (z : ℕ). z ≤ greatest_end) h.pointers p q v 0 l (f q)

pub works-kept : (h : Handle) (p v : ℕ) → length h.pointers ≡ 8 → 1 ≤ value h 2 → (p ≡ 2 → 1 ≤ v) → 1 ≤ value (moved h p v) 2
works-kept h p v e w k = go (ℕ_discrete p 2)
  where
    go : Dec (p ≡ 2) → 1 ≤ value (moved h p v) 2
    go (yes q) = let z : value (moved h p v) 2 ≡ v = rw q (value-here h 2 v (omega arith)) in omega (arith, k q)
    go (no q) = rw (value-else h p v 2 (λ z. q (sym z))) w

-- ---- the record of an opening x that becomes y

abbrev pub place_or0 : Option ℕ → ℕ
place_or0 none = 0
place_or0 (some p) = p

module _ (u : ℕ) (rs : List (Option SegmentRecord)) (x y : SegmentOpening) where
  -- a work opening, whose species stays
  tied-work : (b : Bool) → T b → (r : SegmentRecord) → y.handle.species ≡ x.handle.species → (OneStretch r x → OneStretch r y) → Tied b u r x → Tied b u r y
  tied-work true t r e h k = (k.0, k.1 ∙ sym e, h k.2)
  tied-work false t r e h k = absurd t

  -- an opening whose name, species, begin, end and segments stay
  tied-still : (b : Bool) (r : SegmentRecord) → y.handle.name ≡ x.handle.name → y.handle.species ≡ x.handle.species → value y.handle 0 ≡ value x.handle 0
      → value y.handle 1 ≡ value x.handle 1 → y.content ≡ x.content → Tied b u r x → Tied b u r y
  tied-still true r en es e0 e1 ec k =
      (k.0, k.1 ∙ sym es, λ a c i j q. rw (es, e0) (k.2 a c (rw ec at i) j (rw ec at q)))
  tied-still false r en es e0 e1 ec k = (k.0, en ∙ k.1, es ∙ k.2, e0 ∙ k.3, e1 ∙ k.4, ec ∙ k.5)

  pub placed-work : (q : Option ℕ) → y.handle.permit ≡ x.handle.permit → T x.handle.permit → y.handle.species ≡ x.handle.species
      → ((r : SegmentRecord) → get_or rs (place_or0 q) none ≡ some r → OneStretch r x → OneStretch r y) → Placed u rs x q → Placed u rs y q
  placed-work none e t es h k = rw e t
  placed-work (some p) e t es h k = (k.0, k.1, subst (λ (b : Bool). Tied b u k.0 y) (sym e) (tied-work x.handle.permit t k.0 es (h k.0 k.1) k.2))

  pub placed-still : (q : Option ℕ) → y.handle.permit ≡ x.handle.permit → y.handle.name ≡ x.handle.name → y.handle.species ≡ x.handle.species
      → value y.handle 0 ≡ value x.handle 0 → value y.handle 1 ≡ value x.handle 1 → y.content ≡ x.content → Placed u rs x q → Placed u rs y q
  placed-still none e en es e0 e1 ec k = rw e k
  placed-still (some p) e en es e0 e1 ec k = (k.0, k.1, subst (λ (b : Bool). Tied b u k.0 y) (sym e) (tied-still x.handle.permit k.0 en es e0 e1 ec k.2))
