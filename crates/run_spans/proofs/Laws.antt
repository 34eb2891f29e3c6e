-- The positions from one to the end of its stretch, as the code's steps give their premises. Assumes nothing.
use Prim.Native.Nat.{ℕ, ◌+◌, ◌-◌, ◌*◌, ◌/◌, ◌%◌, ◌≤◌, ◌<◌}
use mathlib.Core.Path.{◌≡◌, ap, ◌∙◌}
use native.Mathlib.Nat.{mod-lt, div-add-mod', div-lt_iff_lt-mul, add-mul}
use native.Mathlib.Omega.{arith}
use Rattle.placing.specs.declared.Segment.{Segment}
use Rattle.placing.specs.declared.Position.{Position}
use Rattle.placing.specs.declared.Cell.{Cell}
use Rattle.placing.specs.Sizes.{greatest_species, elements_of}
use Rattle.placing.specs.Placing.{position, stretch_of, offset_of, cell_of, bit_of}
use Rattle.placing.specs.Laws.Sized.{elements-many, stretch-mono, cell_in}
use Rattle.run_spans.specs.Ahead.{Ahead, Fewer}

module _ (s : ℕ) (h : s ≤ greatest_species) (v : ℕ) (some : 1 ≤ v) where
  abbrev left : ℕ
  left = elements_of s - offset_of s v

  -- to the end of the stretch
  left_is : v + left ≡ (stretch_of s v + 1) * elements_of s + 1
  unfolding stretch_of offset_of
  left_is =
      let k : ℕ = elements_of s in
      let many = elements-many s h in
      let off : (v - 1) % k < k = mod-lt (v - 1) (omega arith) in
      omega (arith, div-add-mod' (v - 1) k, add-mul ((v - 1) / k) 1 k)

  left-some : 1 ≤ left
  unfolding offset_of
  left-some = let many = elements-many s h in let off : (v - 1) % elements_of s < elements_of s = mod-lt (v - 1) (omega arith) in omega arith

  left-same : (j : ℕ) → j < left → stretch_of s (v + j) ≡ stretch_of s v
  unfolding stretch_of
  left-same j l =
      let k : ℕ = elements_of s in
      let q : ℕ = (v - 1) / k in
      let many = elements-many s h in
      let up : stretch_of s (v + j) < q + 1 = (div-lt_iff_lt-mul {k = k} {x = v + j - 1} {y = q + 1} (omega arith)).1 (omega (arith, l, left_is)) in
      omega (arith, up, stretch-mono s h v (v + j) (omega arith))

  -- c is what is left of the stretch, x - y how many come before the other
  module _ (e c x y : ℕ) (ec : c ≡ left) (ex : x ≡ e) (ey : y ≡ v) (before : v < e) where
    pub least-ahead : (m : ℕ) → Fewer c (x - y) m → Ahead s v e m
    least-ahead m f =
        let here = f.first in
        let there = f.second in
        record { some = f.some (omega (arith, ec, left-some)) (omega arith); before = omega arith; same = λ j k. left-same j (omega (arith, k, ec)) }

pub moved_on : (x y : Position) (v k m : ℕ) → y ≡ position m → m ≡ v + k → v ≡ x.0 → y.0 ≡ x.0 + k
moved_on x y v k m e em ev = let z = ap (λ (q : Position). q.0) e in omega arith

-- ---- the bits before an element: i is the index of its cell, b its bit there

-- 2^32 segments of 64 cells, which no store has
pub cell-small : (s : ℕ) (g : Segment) (x : Position) (cell : Cell) (i : ℕ) → s ≤ greatest_species → g.0 < 4294967296 → cell ≡ cell_of s g x → i ≡ cell.0 → i < 274877911040
cell-small s g x cell i h lg ec ei = omega (arith, ap (λ (c : Cell). c.0) ec, (cell_in s h g x).1)

pub bits-told : (s : ℕ) (g : Segment) (x : Position) (cell : Cell) (i b : ℕ) → cell ≡ cell_of s g x → i ≡ cell.0 → b ≡ bit_of s x → i * 32 + b ≡ (cell_of s g x).0 * 32 + bit_of s x
bits-told s g x cell i b ec ei eb = λ j. (ei ∙ ap (λ (c : Cell). c.0) ec) j * 32 + eb j

pub ruleset bits = (cell-small, bits-told)
