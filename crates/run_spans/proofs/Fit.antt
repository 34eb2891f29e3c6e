-- The numbers of a list before the first that is too wide, as the code's steps give their premises: j of them are looked at. Assumes nothing.
use Prim.Native.Nat.{ℕ, ◌-◌, ◌*◌, ◌%◌, ◌^◌, ◌≤◌, ◌<◌}
use mathlib.Core.Path.{◌≡◌, ap, subst, ◌∙◌}
use mathlib.Core.Bool.{true}
use mathlib.Core.List.{List}
use native.Mathlib.Nat.{one-mul}
use native.Mathlib.Omega.{arith}
use lib.Dec.{ltb, lit≤}
use lib.Pow.{shl_exact}
use lib.ListN.{length, get_or, take, drop}
use lib.Seq.{length-take-le, get_or-take}
use Rattle.combine.specs.Laws.Below.{all-at}
use Rattle.combine.specs.Below.{all_below}
use borrow.Author.Tests.{ltb-true, lt-leb}
use Rattle.placing.specs.Sizes.{width_of}
use Rattle.placing.specs.Laws.Whole.{whole_species, whole-width}
use mir.Syntax.{w32}
use mir.Val as val
use Rattle.run_spans.specs.Ahead.{Fits, Fitting}

pub record AllFit (species : ℕ) (list : List ℕ) (many : ℕ) : Type 0 where
  pub fit : (j : ℕ) → j < many → Fits species list j

pub fits-none : (s : ℕ) (l : List ℕ) → AllFit s l 0
fits-none s l = record { fit = λ j h. absurd (omega arith) }

-- ---- all of them below the bound that the code makes of the width w

module _ (s : ℕ) (l : List ℕ) (most w : ℕ) (e : w ≡ width_of s) (narrow : w < 32) where
  bound-is : 1 * 2 ^ w % 2 ^ 32 ≡ 2 ^ width_of s
  bound-is = shl_exact 1 w 32 (lit≤ tt) (omega arith) ∙ one-mul (2 ^ w) ∙ ap (λ (n : ℕ). 2 ^ n) e

  -- the slice of the first `most`, as the code gives it
  abbrev firsts : List ℕ
  firsts = take (most - 0) (drop 0 l)

  pub all-fitting : most ≤ length l → all_below (length firsts) (λ k. ltb (get_or firsts k 0) (1 * 2 ^ w % 2 ^ 32)) ≡ true → Fitting s l most most
  all-fitting long all =
      let many : length firsts ≡ most - 0 = length-take-le (most - 0) l (omega arith) in
      record {
        few = omega arith;
        fit = λ j f. lt-leb (2 ^ width_of s) (get_or l j 0)
            (subst
            (λ (b : ℕ). get_or l j 0 < b)
            bound-is
            (subst
            (λ (x : ℕ). x < 1 * 2 ^ w % 2 ^ 32)
            (get_or-take (most - 0) l j 0 (omega arith))
            (ltb-true (get_or firsts j 0) (1 * 2 ^ w % 2 ^ 32) (all-at (λ k. ltb (get_or firsts k 0) (1 * 2 ^ w % 2 ^ 32)) (length firsts) all j (omega (arith, many, f))))));
        stops = λ m. absurd (omega arith);
      }

-- ---- of species 5, where a number is a cell

pub whole-fitting : (s : ℕ) (l : List ℕ) (most : ℕ) → s ≡ whole_species → ((j : ℕ) → val.Fits w32 (get_or l j 0)) → Fitting s l most most
whole-fitting s l most e cells =
    record {
      few = omega arith;
      fit = λ j f. lt-leb (2 ^ width_of s) (get_or l j 0) (rw (ap (λ (k : ℕ). 2 ^ width_of k) e ∙ ap (λ (k : ℕ). 2 ^ k) whole-width) (cells j).fits);
      stops = λ m. absurd (omega arith);
    }
