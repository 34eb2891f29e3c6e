-- The elements of a species fill cells and a segment: the laws of placing, over the species. Assumes nothing.
use Rattle.std.specs.Prelude.{◌≡◌, refl}
use Rattle.std.proofs.Common.{sym, ◌∙◌, subst, mul-lt-mul_of_pos_right, div-add-mod', le-div_iff_mul-le, div-mul-le_self, le_trans, lit≤}
use Rattle.std.proofs.Math.Path.{ap}
use Prim.Native.Nat.{ℕ, zero, suc, ◌+◌, ◌-◌, ◌*◌, ◌/◌, ◌%◌, ◌≤◌, ◌<◌}
use Rattle.std.proofs.Math.Nat.{mod-lt, suc-mul, mul-le-mul_right, mul-mod_left}
use native.Mathlib.Omega.{arith}
use Rattle.std.proofs.Math.Arith.{mod-mul}
use Rattle.placing.specs.Sizes.{segment_cells, greatest_species, width_of, elements_of, least_elements}
use Rattle.placing.specs.declared.Segment.{Segment}
use Rattle.placing.specs.declared.Position.{Position}
use Rattle.placing.specs.Placing.{stretch_of, offset_of, cell_of, bit_of}

-- elements of w bits fill a cell, and E of them fill a segment's 64
pub record Sized (w E : ℕ) : Type 0 where
  pub per_cell : ℕ
  pub some : 0 < per_cell
  pub positive : 0 < w
  pub many : least_elements ≤ E
  pub few : E ≤ 2048
  pub whole : per_cell * w ≡ 32
  pub full : E * w ≡ 2048

pub sized : (s : ℕ) → s ≤ greatest_species → Sized (width_of s) (elements_of s)
unfolding width_of elements_of
sized zero h = record { per_cell = 32; some = lit≤ tt; positive = lit≤ tt; many = lit≤ tt; few = lit≤ tt; whole = refl; full = refl }
sized (suc zero) h = record { per_cell = 16; some = lit≤ tt; positive = lit≤ tt; many = lit≤ tt; few = lit≤ tt; whole = refl; full = refl }
sized (suc (suc zero)) h = record { per_cell = 8; some = lit≤ tt; positive = lit≤ tt; many = lit≤ tt; few = lit≤ tt; whole = refl; full = refl }
sized (suc (suc (suc zero))) h = record { per_cell = 4; some = lit≤ tt; positive = lit≤ tt; many = lit≤ tt; few = lit≤ tt; whole = refl; full = refl }
sized (suc (suc (suc (suc zero)))) h = record { per_cell = 2; some = lit≤ tt; positive = lit≤ tt; many = lit≤ tt; few = lit≤ tt; whole = refl; full = refl }
sized (suc (suc (suc (suc (suc zero))))) h = record { per_cell = 1; some = lit≤ tt; positive = lit≤ tt; many = lit≤ tt; few = lit≤ tt; whole = refl; full = refl }
sized (suc (suc (suc (suc (suc (suc zero)))))) h = record { per_cell = 2; some = lit≤ tt; positive = lit≤ tt; many = lit≤ tt; few = lit≤ tt; whole = refl; full = refl }
sized (suc (suc (suc (suc (suc (suc (suc s))))))) h = absurd (omega arith)

module _ (s : ℕ) (h : s ≤ greatest_species) where
  pub elements-many : least_elements ≤ elements_of s
  elements-many = (sized s h).many

  pub offset-lt : (x : ℕ) → offset_of s x < elements_of s
  unfolding offset_of
  offset-lt x = mod-lt (x - 1) (let m = elements-many in omega arith)

  pub offset-bits : (x : ℕ) → offset_of s x * width_of s < 2048
  offset-bits x = subst (λ (y : ℕ). offset_of s x * width_of s < y) (sized s h).full (mul-lt-mul_of_pos_right (offset-lt x) (sized s h).positive)

  -- an element lies within one cell
  pub bit-fits : (x : Position) → bit_of s x + width_of s ≤ 32
  unfolding bit_of
  bit-fits x =
      let z = sized s h in
      let o : ℕ = offset_of s x.0 in
      let w : ℕ = width_of s in
      let k : ℕ = z.per_cell in
      let q : ℕ = o * w / w % k in
      let e : o * w % 32 ≡ q * w + o * w % w = ap (λ (y : ℕ). o * w % y) (sym z.whole) ∙ mod-mul (o * w) z.some z.positive in
      omega (arith, e, mul-mod_left o w, z.whole, suc-mul q w, mul-le-mul_right {m = suc q} {n = k} w (mod-lt (o * w / w) z.some))

  -- an element lies within its segment
  pub cell_in : (g : Segment) (x : Position) → (g.0 * segment_cells ≤ (cell_of s g x).0) × ((cell_of s g x).0 < g.0 * segment_cells + segment_cells)
  unfolding cell_of
  cell_in g x = (omega arith, omega (arith, offset-bits x.0))

  pub stretch-mono : (x y : ℕ) → x ≤ y → stretch_of s x ≤ stretch_of s y
  unfolding stretch_of
  stretch-mono x y l = (le-div_iff_mul-le {k = elements_of s} {x = stretch_of s x} {y = y - 1} (let m = elements-many in omega arith)).1 (le_trans (div-mul-le_self (x - 1) (elements_of s)) (omega arith))

-- positions of one stretch have their offsets
pub offsets-differ : (s x y : ℕ) → 1 ≤ x → 1 ≤ y → stretch_of s x ≡ stretch_of s y → offset_of s x ≡ offset_of s y → x ≡ y
unfolding stretch_of offset_of
offsets-differ s x y hx hy es eo =
    let E : ℕ = elements_of s in
    omega (arith, div-add-mod' (x - 1) E, div-add-mod' (y - 1) E, ap (λ (q : ℕ). q * E) es, eo)

-- of two offsets in one cell, the lower has its element before the other's
pub apart : (w o o' : ℕ) → o < o' → o * w / 32 ≡ o' * w / 32 → o * w % 32 + w ≤ o' * w % 32
apart w o o' h e = omega (arith, e, suc-mul o w, mul-le-mul_right {m = suc o} {n = o'} w h)
