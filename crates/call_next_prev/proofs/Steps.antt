-- The permit, the segment of a position and the opening after a call, as the code's steps give their premises. Assumes nothing.
use Prim.Native.Nat.{ℕ, ◌+◌, ◌-◌, ◌≤◌, ◌<◌}
use mathlib.Core.Path.{◌≡◌, sym, ap, ◌∙◌}
use mathlib.Core.Bool.{Bool, false, not, ◌&&◌}
use native.Mathlib.Omega.{arith}
use lib.Dec.{eqb}
use lib.ListN.{get_or}
use borrow.Author.Tests.{eq-eqb, ne_eqb}
use Rattle.placing.specs.declared.Position.{Position}
use Rattle.placing.specs.Placing.{segment, position, slot_of}
use Rattle.tables.specs.declared.Opening.{Opening}
use Rattle.tables.specs.Fields.{value_of}
use Rattle.tables.specs.Handles.{pointed}
use Rattle.placing.specs.Laws.Held.{slot-within}
use Rattle.opening_laws.specs.Back.{OpenFile}
use Rattle.call_next_prev.specs.declared.Direction.{Direction}
use Rattle.call_next_prev.specs.declared.Direction.TheVariants.{Forward, Backward}
use Rattle.call_next_prev.specs.Reads.{segment_for, lacks_permit, next_left, prev_left, edge_of, edge_left, left_by, from_of, to_of}

-- ---- "next through 0 and prev through 1 need the work permit"

module _ (p q permit : ℕ) where
  pub permit-other : (p ≡ q → ⊥) → false ≡ lacks_permit p q permit
  permit-other d = sym (ap (λ (b : Bool). b && not (eqb permit 1)) (ne_eqb p q d))

  pub permit-this : p ≡ q → not (eqb permit 1) ≡ lacks_permit p q permit
  permit-this e = sym (ap (λ (b : Bool). b && not (eqb permit 1)) (eq-eqb p q e))

pub ruleset permits = (permit-other, permit-this)

-- ---- the segment of position x: k is its place in the list

module _ (o : Opening) (x k : ℕ) (ek : k ≡ slot_of o.species (value_of o 0) x) where
  pub place-small : OpenFile o → value_of o 0 ≤ x → x < value_of o 1 → k < 32
  place-small w l h = let f = w.few in omega (arith, slot-within o.species w.species (value_of o 0) w.first (value_of o 1) x l h)

  pub segment-is : get_or o.segments k (segment 0) ≡ segment_for o x
  segment-is = ap (λ (j : ℕ). get_or o.segments j (segment 0)) ek

pub ruleset places = (place-small, segment-is)

-- ---- the opening after a call that delivered the element at x

module _ (o : Opening) (p : ℕ) (r : Opening) (q : ℕ) where
  pub left-edge : (d : Direction) → q ≡ edge_of d → p ≡ q → r ≡ edge_left d o → r ≡ left_by d o p
  unfolding next_left prev_left
  left-edge Forward eq z e = simp (eq-eqb p 0 (z ∙ eq)) e
  left-edge Backward eq z e = simp (eq-eqb p 1 (z ∙ eq)) e

  pub left-other : (d : Direction) → q ≡ edge_of d → (p ≡ q → ⊥) → (x y : Position) → value_of o p ≡ from_of d x.0 → y.0 ≡ to_of d x.0 → r ≡ pointed o p y → r ≡ left_by d o p
  unfolding next_left prev_left
  left-other Forward eq n x y ev ey e = simp (ne_eqb p 0 (λ z. n (z ∙ sym eq))) (e ∙ ap (λ (m : ℕ). pointed o p (position m)) (let z : y.0 ≡ value_of o p + 1 = omega arith in z))
  left-other Backward eq n x y ev ey e = simp (ne_eqb p 1 (λ z. n (z ∙ sym eq))) (e ∙ ap (λ (m : ℕ). pointed o p (position m)) (let z : y.0 ≡ value_of o p - 1 = omega arith in z))

pub ruleset steps = (left-edge, left-other)
