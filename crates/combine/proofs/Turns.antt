-- A turn of the loop that gathers the bits of a row of cells. Assumes nothing.
use Prim.Native.Nat.{ℕ, zero, suc, ◌+◌}
use mathlib.Core.Path.{◌≡◌, sym, ap, ◌∙◌}
use mathlib.Core.Bool.{◌&&◌}
use mathlib.Core.List.{List}
use native.Mathlib.Omega.{arith}
use lib.Dec.{eqb, eqb-suc-zero}
use lib.Bits.{bit_or, or_zero_l, or_add_and, and_le_r}
use borrow.Author.Tests.{ne_eqb}
use lib.ListN.{get_or}
use Rattle.combine.specs.Below.{all_below}
use Rattle.combine.specs.Laws.Below.{all-suc}

-- bits gathered are zero where both numbers are
or-none : (a b : ℕ) → (eqb a 0 && eqb b 0) ≡ eqb (bit_or a b) 0
or-none zero b = ap (λ (n : ℕ). eqb n 0) (sym (or_zero_l b))
or-none (suc a) b = rw (eqb-suc-zero a) (sym (ne_eqb (bit_or (suc a) b) 0 (λ e. let s = or_add_and (suc a) b in let l = and_le_r (suc a) b in omega arith)))

pub gather-turn : (cells : List ℕ) (k bits : ℕ) → eqb bits 0 ≡ all_below k (λ j. eqb (get_or cells j 0) 0) → eqb (bit_or bits (get_or cells k 0)) 0 ≡ all_below (k + 1) (λ j. eqb (get_or cells j 0) 0)
gather-turn cells k bits h =
    sym (or-none bits (get_or cells k 0)) ∙ (λ j. h j && eqb (get_or cells k 0) 0) ∙ sym (all-suc (λ j. eqb (get_or cells j 0) 0) k)
