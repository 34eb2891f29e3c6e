-- Laws of run_spans/specs/Ahead.antt. Assumes nothing.
use Rattle.std.specs.Prelude.{ℕ, ◌≤◌, ◌<◌, ◌≡◌, true, List, get_or}
use Rattle.std.proofs.Common.{subst, ⊎_elim, arith}
use Rattle.combine.specs.Laws.Below.{not-both}
use Rattle.combine.specs.Laws.Numbers.{less-or-more, eq-or-ne}
use Rattle.numbers.specs.declared.Number.TheVariants.{Plain}
use Rattle.numbers.specs.Numbers.{too_wide}
use Rattle.run_spans.specs.Ahead.{Fewer, Fits, Fitting}

-- there is one such number
pub one-fitting : (s : ℕ) (l : List ℕ) (most a b : ℕ) → Fitting s l most a → Fitting s l most b → a ≡ b
one-fitting s l most a b f g = ⊎_elim (λ e. e) (λ n. absurd (⊎_elim (apart a b f g) (apart b a g f) (less-or-more a b n))) (eq-or-ne a b)
  where
    apart : (x y : ℕ) → Fitting s l most x → Fitting s l most y → x < y → ⊥
    apart x y p q d = let h = q.few in not-both (p.stops (omega arith)) (q.fit x d)

module _ (s : ℕ) (l : List ℕ) (most many : ℕ) (g : Fitting s l most many) where
  -- it is one at least where the first fits
  some_fit : 1 ≤ most → Fits s l 0 → 1 ≤ many
  some_fit m first = ⊎_elim (λ (e : many ≡ 0). absurd (not-both (subst (λ (j : ℕ). too_wide s (Plain (get_or l j 0)) ≡ true) e (g.stops (omega arith))) first)) (λ d. omega (arith, d)) (eq-or-ne many 0)

  -- of the lower of two numbers: no more than either, and one at least where the first fits
  pub fitting-fewer : (a b : ℕ) → Fewer a b most → Fits s l 0 → Fewer a b many
  fitting-fewer a b f first =
      let h = g.few in
      let p = f.first in
      let q = f.second in
      record { first = omega arith; second = omega arith; some = λ x y. some_fit (f.some x y) first }
