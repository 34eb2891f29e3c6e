-- The cells that moves carry: those of a from are in its to, and only the cells of a to change. Assumes nothing.
use Rattle.std.specs.Prelude.{ℕ, ◌+◌, ◌*◌, ◌≤◌, ◌<◌, ◌≡◌, refl, ◌≢◌, not, List, [], ◌∷◌, T, eqb, ltb, length, get_or}
use Rattle.std.proofs.Common.{arith, sym, ap, ◌∙◌, subst, inl, inr, ⊎_elim, T_not, ltb→lt}
use Rattle.std.proofs.Math.Decide.{ℕ_discrete}
use Rattle.std.proofs.Math.Dec.{eqb_refl}
use Rattle.combine.specs.Lists.{is_in}
use Rattle.combine.specs.Laws.Numbers.{less-or-more}
use Rattle.combine.specs.Laws.Pairs.{froms, tos, all, none_twice}
use Rattle.combine.specs.Laws.Tests.{and_first, and_second, or-first, or-second, nor-first, nor-second, eqb-ne, eqb-eq}
use Rattle.placing.specs.Sizes.{segment_cells}
use Rattle.placing.specs.Placing.{segment}
use Rattle.store.specs.Store.{copied}
use Rattle.store.specs.Laws.Elements.{Within, Outside, copied-length, copied-outside, copied-inside}
use Rattle.segments.specs.Moves.{exchange, moved_cells}
use Rattle.proof_moves.specs.Exchange.{all_in, not-to, not-from, exchange-out}

apart : (b : ℕ) (g c : ℕ) → g ≢ b → c < segment_cells → Outside (segment b) (g * segment_cells + c)
apart b g c d l = ⊎_elim (λ p. inl (omega arith)) (λ p. inr (omega arith)) (less-or-more g b d)

-- n segments are in the store s
module _ (n : ℕ) where
  abbrev Inside : List ℕ → Type 0
  Inside l = T (all (λ g. ltb g n) l)

  within : (s : List ℕ) (g : ℕ) → segment_cells * n ≤ length s → T (ltb g n) → Within (segment g) s
  within s g fits t = let l = ltb→lt g n t in omega arith

  pub moved_length : (s l : List ℕ) → segment_cells * n ≤ length s → Inside (froms l) → Inside (tos l) → length (moved_cells s l) ≡ length s
  moved_length s [] fits a b = refl
  moved_length s (x ∷ []) fits a b = refl
  moved_length s (x ∷ y ∷ l) fits a b =
      let e : length (copied s (segment x) (segment y)) ≡ length s =
      copied-length s (segment x) (segment y) (within s x fits (and_first (ltb x n) _ a)) (within s y fits (and_first (ltb y n) _ b)) in
      moved_length (copied s (segment x) (segment y)) l (omega arith) (and_second (ltb x n) _ a) (and_second (ltb y n) _ b) ∙ e

  -- only the cells of a to change
  pub moved-outside : (s l : List ℕ) → segment_cells * n ≤ length s → Inside (froms l) → Inside (tos l) → (k : ℕ) → ((g : ℕ) → T (is_in g (tos l)) → Outside (segment g) k)
      → get_or (moved_cells s l) k 0 ≡ get_or s k 0
  moved-outside s [] fits a b k o = refl
  moved-outside s (x ∷ []) fits a b k o = refl
  moved-outside s (x ∷ y ∷ l) fits a b k o =
      let wx = within s x fits (and_first (ltb x n) _ a) in
      let wy = within s y fits (and_first (ltb y n) _ b) in
      let e : length (copied s (segment x) (segment y)) ≡ length s = copied-length s (segment x) (segment y) wx wy in
      moved-outside (copied s (segment x) (segment y)) l (omega arith) (and_second (ltb x n) _ a) (and_second (ltb y n) _ b) k (λ g t. o g (or-second (eqb g y) (is_in g (tos l)) t))
      ∙ copied-outside s (segment x) (segment y) wx wy k (o y (or-first (eqb y y) (is_in y (tos l)) (eqb_refl y)))

  -- "Segments left behind keep their cells"
  pub moved-elsewhere : (s l : List ℕ) → segment_cells * n ≤ length s → Inside (froms l) → Inside (tos l) → (g : ℕ) → T (not (is_in g (tos l))) → (c : ℕ) → c < segment_cells
      → get_or (moved_cells s l) (g * segment_cells + c) 0 ≡ get_or s (g * segment_cells + c) 0
  moved-elsewhere s l fits a b g o c lc = moved-outside s l fits a b (g * segment_cells + c)
      (λ y t. apart y g c (λ q. T_not (is_in g (tos l)) o (subst (λ (k : ℕ). T (is_in k (tos l))) (sym q) t)) lc)

  -- "cells beyond are never touched"
  pub moved-beyond : (s l : List ℕ) → segment_cells * n ≤ length s → Inside (froms l) → Inside (tos l) → (k : ℕ) → segment_cells * n ≤ k → get_or (moved_cells s l) k 0 ≡ get_or s k 0
  moved-beyond s l fits a b k h = moved-outside s l fits a b k (λ g t. let d : g < n = ltb→lt g n (all_in (λ x. ltb x n) (tos l) g b t) in inr (omega arith))

  -- the cells of all others are where these go
  pub moved-cells : (s l : List ℕ) → segment_cells * n ≤ length s → Inside (froms l) → Inside (tos l) → T (none_twice l) → (g : ℕ) → T (not (is_in g (tos l))) → (c : ℕ) → c < segment_cells
      → get_or (moved_cells s l) (exchange l g * segment_cells + c) 0 ≡ get_or s (g * segment_cells + c) 0
  moved-cells s [] fits a b once g o c lc = refl
  moved-cells s (x ∷ []) fits a b once g o c lc = refl
  moved-cells s (x ∷ y ∷ l) fits a b once g o c lc = go (ℕ_discrete g x) (λ k fits₁ a₁ b₁ once₁ r. moved-cells (copied s (segment x) (segment y)) l fits₁ a₁ b₁ once₁ k r c lc)
    where
      wx : Within (segment x) s
      wx = within s x fits (and_first (ltb x n) _ a)

      wy : Within (segment y) s
      wy = within s y fits (and_first (ltb y n) _ b)

      fits₁ : segment_cells * n ≤ length (copied s (segment x) (segment y))
      fits₁ = omega (arith, copied-length s (segment x) (segment y) wx wy)

      outs : T (none_twice (y ∷ l))
      outs = and_second (not (is_in x (y ∷ l))) (none_twice (y ∷ l)) once

      out_y : T (not (is_in y l))
      out_y = and_first (not (is_in y l)) (none_twice l) outs

      not-y : g ≢ y
      not-y q = T_not (eqb g y) (nor-first (eqb g y) (is_in g (tos l)) o) (rw (eqb-eq g y q) tt)

      go : Dec (g ≡ x)
          → ((k : ℕ) → segment_cells * n ≤ length (copied s (segment x) (segment y)) → Inside (froms l) → Inside (tos l) → T (none_twice l) → T (not (is_in k (tos l))) → get_or (moved_cells (copied s (segment x) (segment y)) l) (exchange l k * segment_cells + c) 0 ≡ get_or (copied s (segment x) (segment y)) (k * segment_cells + c) 0)
          → get_or (moved_cells (copied s (segment x) (segment y)) l) (exchange (x ∷ y ∷ l) g * segment_cells + c) 0 ≡ get_or s (g * segment_cells + c) 0
      go (yes e) rest = rw (eqb-eq g x e)
          (ap (λ (k : ℕ). get_or (moved_cells (copied s (segment x) (segment y)) l) (k * segment_cells + c) 0) (sym (exchange-out l y (not-from l y out_y) (not-to l y out_y)))
          ∙ rest y fits₁ (and_second (ltb x n) _ a) (and_second (ltb y n) _ b) (and_second (not (is_in y l)) (none_twice l) outs) (not-to l y out_y)
          ∙ copied-inside s (segment x) (segment y) wx wy c lc
          ∙ ap (λ (k : ℕ). get_or s (k * segment_cells + c) 0) (sym e))
      go (no d) rest = rw (eqb-ne g x d, eqb-ne g y not-y)
          (rest g fits₁ (and_second (ltb x n) _ a) (and_second (ltb y n) _ b) (and_second (not (is_in y l)) (none_twice l) outs) (nor-second (eqb g y) (is_in g (tos l)) o)
          ∙ copied-outside s (segment x) (segment y) wx wy (g * segment_cells + c) (apart y g c not-y lc))
