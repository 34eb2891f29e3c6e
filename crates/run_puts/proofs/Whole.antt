-- Elements of species 5, put one after another, are cells that are copied. Assumes nothing.
use Prim.Native.Nat.{ℕ, zero, suc, ◌+◌, ◌*◌, ◌^◌, ◌≤◌, ◌<◌}
use mathlib.Core.Path.{◌≡◌, sym, ap, subst, ◌∙◌}
use mathlib.Core.List.{List}
use native.Mathlib.Omega.{arith}
use lib.ListN.{length, get_or, set}
use lib.Seq.{paste, paste-zero, paste-suc}
use Rattle.combine.specs.Laws.Parts.{paste-above}
use Rattle.placing.specs.declared.Segment.{Segment}
use Rattle.placing.specs.declared.Position.{Position}
use Rattle.placing.specs.Sizes.{segment_cells}
use Rattle.placing.specs.Placing.{position, stretch_of, cell_of}
use Rattle.placing.specs.Laws.Whole.{whole_species}
use Rattle.store.specs.Store.{put_element}
use Rattle.store.specs.Laws.Whole.{whole-put}
use Rattle.run_spans.specs.Ahead.{Follow}
use Rattle.run_spans.specs.Laws.Whole.{whole-on, whole-fits}
use Rattle.run_puts.specs.Puts.{put_first}

-- g is the segment, x the first position; the cells of the store s and the numbers of the list l have 32 bits
module _ (g : Segment) (x : Position) (some : 1 ≤ x.0) (s l : List ℕ) (cells : (i : ℕ) → get_or s i 0 < 2 ^ 32) (numbers : (i : ℕ) → get_or l i 0 < 2 ^ 32) where
  cells-first : (many : ℕ) → ((j : ℕ) → j < many → stretch_of whole_species (x.0 + j) ≡ stretch_of whole_species x.0) → (cell_of whole_species g x).0 + many ≤ length s → many ≤ length l
      → paste s (cell_of whole_species g x).0 l many ≡ put_first s whole_species g x.0 l many
  unfolding put_first
  cells-first zero f h m = sym (paste-zero s (cell_of whole_species g x).0 l)
  cells-first (suc j) f h m =
      let first : ℕ = (cell_of whole_species g x).0 in
      let next : ℕ = (cell_of whole_species g (position (x.0 + j))).0 in
      let before : List ℕ = paste s first l j in
      let on : next ≡ first + j = whole-on g x.0 some j (f j (omega arith)) in
      let kept : get_or before next 0 ≡ get_or s next 0 = paste-above s first l j (omega arith) (omega arith) next (omega arith) in
      sym (paste-suc s first l j 0 (omega arith) (omega arith))
      ∙ ap (λ (n : ℕ). set before n (get_or l j 0)) (sym on)
      ∙ sym (whole-put before g (position (x.0 + j)) (subst (λ (n : ℕ). n < 2 ^ 32) (sym kept) (cells next)) (get_or l j 0) (numbers j))
      ∙ ap (λ (z : List ℕ). put_element z whole_species g (position (x.0 + j)) (get_or l j 0)) (cells-first j (λ i q. f i (omega (arith, q))) (omega arith) (omega arith))

  -- k is the species
  pub all-copied : (k : ℕ) → k ≡ whole_species → (many : ℕ) → Follow k x.0 many → g.0 * segment_cells + segment_cells ≤ length s → many ≤ length l → (s' : List ℕ)
      → s' ≡ paste s (cell_of whole_species g x).0 l many → s' ≡ put_first s k g x.0 l many
  all-copied k ek many f fits m s' e =
      let follows : Follow whole_species x.0 many = subst (λ (n : ℕ). Follow n x.0 many) ek f in
      e ∙ cells-first many follows.same (whole-fits k ek g x some many f (length s) fits) m ∙ ap (λ (n : ℕ). put_first s n g x.0 l many) (sym ek)
