-- Elements of one stretch of species 5 are cells, one after another: g is its segment, x the first position. Assumes nothing.
use Rattle.std.specs.Prelude.{ℕ, ◌+◌, ◌-◌, ◌*◌, ◌≤◌, ◌<◌, ◌≡◌, refl}
use Rattle.std.proofs.Common.{sym, subst, ⊎_elim, arith, lit≤}
use Rattle.combine.specs.Laws.Numbers.{le-or-lt}
use Rattle.placing.specs.declared.Segment.{Segment}
use Rattle.placing.specs.declared.Position.{Position}
use Rattle.placing.specs.Sizes.{segment_cells, greatest_species}
use Rattle.placing.specs.Placing.{position, stretch_of, cell_of}
use Rattle.placing.specs.Laws.Sized.{cell_in}
use Rattle.placing.specs.Laws.Whole.{whole_species, whole-width, whole-bit}
use Rattle.run_spans.specs.Ahead.{Follow}
use Rattle.run_spans.specs.Laws.Bits.{in_cell}

known : whole_species ≤ greatest_species
known = lit≤ tt

module _ (g : Segment) (x : ℕ) (some : 1 ≤ x) where
  -- the element j further on is the cell j further on
  pub whole-on : (j : ℕ) → stretch_of whole_species (x + j) ≡ stretch_of whole_species x → (cell_of whole_species g (position (x + j))).0 ≡ (cell_of whole_species g (position x)).0 + j
  whole-on j same = omega (arith, in_cell whole_species known g x some _ refl 32 (sym whole-width) j same, whole-bit (position x))

  -- and so many of them lie in the segment
  within : (many : ℕ) → Follow whole_species x many → (cell_of whole_species g (position x)).0 + many ≤ g.0 * segment_cells + segment_cells
  within many f = ⊎_elim (λ p. omega (arith, p, (cell_in whole_species known g (position x)).1)) (λ p. last p) (le-or-lt many 0)
    where
      last : 0 < many → (cell_of whole_species g (position x)).0 + many ≤ g.0 * segment_cells + segment_cells
      last p =
          let j : ℕ = many - 1 in
          omega (arith, p, whole-on j (f.same j (omega (arith, p))), (cell_in whole_species known g (position (x + j))).1)

-- k is the species
pub whole-fits : (k : ℕ) → k ≡ whole_species → (g : Segment) (x : Position) → 1 ≤ x.0 → (many : ℕ) → Follow k x.0 many → (cells : ℕ) → g.0 * segment_cells + segment_cells ≤ cells
    → (cell_of whole_species g x).0 + many ≤ cells
whole-fits k ek g x some many f cells fits = omega (arith, fits, within g x.0 some many (subst (λ (n : ℕ). Follow n x.0 many) ek f))
