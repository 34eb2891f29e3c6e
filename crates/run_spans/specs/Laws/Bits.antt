-- Laws of run_spans/specs/Bits.antt: elements of one stretch come one after another, each its width further on. Assumes nothing.
use Prim.Native.Nat.{ℕ, ◌+◌, ◌-◌, ◌*◌, ◌/◌, ◌%◌, ◌≤◌, ◌<◌}
use Rattle.std.specs.Prelude.{◌≡◌, refl, List, get_or}
use Rattle.std.proofs.Common.{sym, subst, ◌∙◌, add-mul, one-mul, zero-mul, arith}
use Rattle.std.proofs.Math.Path.{ap}
use Rattle.std.proofs.Math.Nat.{div-add-mod'}
use Rattle.std.proofs.Math.ListN.{set}
use Rattle.packing.specs.Packing.{take_bits, put_bits}
use Rattle.placing.specs.declared.Segment.{Segment}
use Rattle.placing.specs.Sizes.{segment_cells, greatest_species, width_of, elements_of}
use Rattle.placing.specs.Placing.{position, stretch_of, offset_of, cell_of, bit_of}
use Rattle.placing.specs.Laws.Sized.{sized, bit-fits, cell_in}
use Rattle.store.specs.Store.{element_at, put_element}
use Rattle.run_spans.specs.Ahead.{Follow}
use Rattle.run_spans.specs.Bits.{Lies, Row}

-- ---- the bits before the element j further on

pub row-starts : (b w : ℕ) → b ≡ b + 0 * w
row-starts b w = omega (arith, zero-mul w)

pub row-goes-on : (a b w j : ℕ) → a ≡ b + j * w → a + w ≡ b + (j + 1) * w
row-goes-on a b w j e = omega (arith, add-mul j 1 w, one-mul w)

-- it lies in one cell
module _ (cells a b w j many : ℕ) (r : Row cells b w many) (e : a ≡ b + j * w) (l : j < many) where
  pub row_lies : (c : ℕ) → c ≡ cells → Lies c a w
  row_lies c ec = subst (λ (n : ℕ). Lies n a w) (sym ec) (subst (λ (n : ℕ). Lies cells n w) (sym e) (r.lie j l))

  pub row-few : a < 8796093022208
  row-few = (row_lies cells refl).few

-- ---- of a stretch: x is the first position, b the bits before its element, w the width

module _ (s : ℕ) (h : s ≤ greatest_species) (g : Segment) (x : ℕ) (some : 1 ≤ x) (b : ℕ) (eb : b ≡ (cell_of s g (position x)).0 * 32 + bit_of s (position x)) (w : ℕ) (ew : w ≡ width_of s) where
  module _ (j : ℕ) (same : stretch_of s (x + j) ≡ stretch_of s x) where
    offset-on : offset_of s (x + j) ≡ offset_of s x + j
    unfolding stretch_of offset_of
    offset-on =
        let E : ℕ = elements_of s in
        omega (arith, div-add-mod' (x + j - 1) E, div-add-mod' (x - 1) E, ap (λ (q : ℕ). q * E) same)

    bits-on : offset_of s (x + j) * width_of s ≡ offset_of s x * width_of s + j * w
    bits-on = ap (λ (o : ℕ). o * width_of s) offset-on ∙ add-mul (offset_of s x) j (width_of s) ∙ ap (λ (n : ℕ). offset_of s x * width_of s + j * n) (sym ew)

    pub in_cell : (b + j * w) / 32 ≡ (cell_of s g (position (x + j))).0
    unfolding cell_of bit_of
    in_cell = omega (arith, eb, bits-on)

    at-bit : (b + j * w) % 32 ≡ bit_of s (position (x + j))
    unfolding cell_of bit_of
    at-bit = omega (arith, eb, bits-on)

    pub taken_is : (st : List ℕ) → take_bits w ((b + j * w) % 32) (get_or st ((b + j * w) / 32) 0) ≡ element_at st s g (position (x + j))
    unfolding element_at
    taken_is st = λ i. take_bits (ew i) (at-bit i) (get_or st (in_cell i) 0)

    pub put_is : (st : List ℕ) (n : ℕ)
        → set st ((b + j * w) / 32) (put_bits w ((b + j * w) % 32) (get_or st ((b + j * w) / 32) 0) n) ≡ put_element st s g (position (x + j)) n
    unfolding put_element
    put_is st n = λ i. set st (in_cell i) (put_bits (ew i) (at-bit i) (get_or st (in_cell i) 0) n)

  pub stretch-row : (cells many : ℕ) → g.0 * segment_cells + segment_cells ≤ cells → g.0 < 4294967296 → Follow s x many → Row cells b w many
  stretch-row cells many fits small f =
      record {
        lie = λ j l.
            record {
              there = omega (arith, in_cell j (f.same j l), (cell_in s h g (position (x + j))).1);
              few = omega (arith, in_cell j (f.same j l), (cell_in s h g (position (x + j))).1);
              some = omega (arith, (sized s h).positive);
              inside = omega (arith, at-bit j (f.same j l), bit-fits s h (position (x + j)));
            };
      }
