-- A row of widths in two parts: the numbers of the first lie above those of the second. Assumes nothing.
use Rattle.std.specs.Prelude.{◌≡◌, refl, List, [], ◌∷◌, ◌++◌, ℕ, ◌+◌, ◌/◌, ◌%◌, ◌^◌}
use Rattle.std.proofs.Common.{sym, ap, ◌∙◌, add_comm, arith, shr-shr}
use Rattle.packing.specs.Packing.{field, sum, unpacked}

pub sum-append : (ws vs : List ℕ) → sum (ws ++ vs) ≡ sum ws + sum vs
unfolding sum
sum-append [] vs = omega arith
sum-append (w ∷ ws) vs = omega (arith, sum-append ws vs)

-- a field above the low t digits is one of what lies above them
field-over : (w s t n : ℕ) → field w (s + t) n ≡ field w s (n / 2 ^ t)
unfolding field
field-over w s t n = ap (λ (k : ℕ). n / 2 ^ k % 2 ^ w) (add_comm s t) ∙ ap (λ (k : ℕ). k % 2 ^ w) (sym (shr-shr n t s))

pub unpacked-append : (ws vs : List ℕ) (n : ℕ) → unpacked (ws ++ vs) n ≡ unpacked ws (n / 2 ^ sum vs) ++ unpacked vs n
unfolding unpacked
unpacked-append [] vs n = refl
unpacked-append (w ∷ ws) vs n =
    (λ j. (ap (λ (s : ℕ). field w s n) (sum-append ws vs) ∙ field-over w (sum ws) (sum vs) n) j ∷ unpacked-append ws vs n j)
