-- Elements of species 5, taken one after another, are cells that are copied. Assumes nothing.
use Prim.Native.Nat.{ℕ, ◌+◌, ◌*◌, ◌^◌, ◌≤◌, ◌<◌}
use mathlib.Core.Path.{◌≡◌, sym, ap, subst, ◌∙◌}
use mathlib.Core.List.{List}
use native.Mathlib.Omega.{arith}
use lib.ListN.{length, get_or}
use lib.Seq.{paste, ext_get_or}
use Rattle.combine.specs.Lists.{part}
use Rattle.combine.specs.Laws.Lists.{tab-at}
use Rattle.combine.specs.Laws.Parts.{length_part, get_d_part}
use Rattle.placing.specs.declared.Segment.{Segment}
use Rattle.placing.specs.declared.Position.{Position}
use Rattle.placing.specs.Sizes.{segment_cells}
use Rattle.placing.specs.Placing.{position, cell_of}
use Rattle.placing.specs.Laws.Whole.{whole_species}
use Rattle.store.specs.Store.{element_at}
use Rattle.store.specs.Laws.Whole.{whole-element}
use Rattle.run_spans.specs.Ahead.{Follow}
use Rattle.run_spans.specs.Laws.Whole.{whole-on, whole-fits}
use Rattle.run_takes.specs.Takes.{taken}
use Rattle.run_takes.proofs.Laws.{length_taken}

-- g is the segment, x the first position; the cells of the store s have 32 bits
module _ (g : Segment) (x : Position) (some : 1 ≤ x.0) (s : List ℕ) (cells : (i : ℕ) → get_or s i 0 < 2 ^ 32) (many : ℕ) where
  module _ (f : Follow whole_species x.0 many) where
    taken_at : (j : ℕ) → j < many → get_or (taken s whole_species g x.0 many) j 0 ≡ get_or s ((cell_of whole_species g x).0 + j) 0
    unfolding taken
    taken_at j h =
        tab-at many (λ i. element_at s whole_species g (position (x.0 + i))) j 0 h
        ∙ whole-element s g (position (x.0 + j)) (cells _)
        ∙ ap (λ (n : ℕ). get_or s n 0) (whole-on g x.0 some j (f.same j h))

    cells-taken : (cell_of whole_species g x).0 + many ≤ length s → part s (cell_of whole_species g x).0 many ≡ taken s whole_species g x.0 many
    cells-taken h =
        let first : ℕ = (cell_of whole_species g x).0 in
        let e : length (part s first many) ≡ many = length_part s first many h in
        ext_get_or 0 (part s first many) (taken s whole_species g x.0 many) (e ∙ sym (length_taken s whole_species g x.0 many))
        (λ j l. get_d_part s first many j (omega (arith, l, e)) ∙ sym (taken_at j (omega (arith, l, e))))

  -- k is the species
  pub all-copied : (k : ℕ) → k ≡ whole_species → Follow k x.0 many → g.0 * segment_cells + segment_cells ≤ length s → (l l' : List ℕ) (place : ℕ)
      → l' ≡ paste l place (part s (cell_of whole_species g x).0 many) many → l' ≡ paste l place (taken s k g x.0 many) many
  all-copied k ek f fits l l' place e =
      let follows : Follow whole_species x.0 many = subst (λ (n : ℕ). Follow n x.0 many) ek f in
      e ∙ ap (λ (y : List ℕ). paste l place y many) (cells-taken follows (whole-fits k ek g x some many f (length s) fits) ∙ ap (λ (n : ℕ). taken s n g x.0 many) (sym ek))
