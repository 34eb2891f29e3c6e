-- Packing and unpacking are each other's inverse. Assumes nothing.
use Rattle.std.specs.Prelude.{◌≡◌, refl, List, [], ◌∷◌, ℕ, zero, suc, ◌+◌, ◌*◌, ◌/◌, ◌%◌, ◌^◌, ◌<◌, length, get_or, drop}
use Rattle.std.proofs.Common.{sym, ap, ◌∙◌, subst, suc-le-suc, mod-eq_of_lt, mod-lt, suc-ne-zero, not-suc-le-zero, le_of_suc-le-suc, zero-lt-suc, arith, lit≤, pow-add, pow_pos}
use Rattle.std.proofs.Math.Nat.{mod-mod, mod-one, suc_inj}
use Rattle.std.proofs.Math.Arith.{digits_lt}
use Rattle.std.proofs.Math.Pow.{high, low, mod-mod-pow}
use Rattle.std.proofs.lemmas.Nat.{mod-pow-add}
use Rattle.packing.specs.Packing.{field, sum, packed, unpacked}
use Rattle.packing.specs.Laws.Fields.{field_below}

-- the numbers, each without what its width loses
unfoldable pub trimmed : List ℕ → List ℕ → List ℕ
trimmed [] xs = []
trimmed (w ∷ ws) [] = []
trimmed (w ∷ ws) (x ∷ xs) = x % 2 ^ w ∷ trimmed ws xs

pub packed_lt : (ws xs : List ℕ) → packed ws xs < 2 ^ sum ws
unfolding packed sum
packed_lt [] xs = lit≤ tt
packed_lt (w ∷ ws) [] = pow_pos (w + sum ws)
packed_lt (w ∷ ws) (x ∷ xs) = subst (λ (y : ℕ). packed (w ∷ ws) (x ∷ xs) < y) (sym (pow-add 2 w (sum ws))) (digits_lt (mod-lt x (pow_pos w)) (packed_lt ws xs))

-- only the digits of the widths count
pub unpacked-low : (ws : List ℕ) (n m : ℕ) → n % 2 ^ sum ws ≡ m % 2 ^ sum ws → unpacked ws n ≡ unpacked ws m
unfolding unpacked sum
unpacked-low [] n m e = refl
unpacked-low (w ∷ ws) n m e =
    let less : n % 2 ^ sum ws ≡ m % 2 ^ sum ws = sym (mod-mod-pow n w (sum ws)) ∙ ap (λ (y : ℕ). y % 2 ^ sum ws) e ∙ mod-mod-pow m w (sum ws) in
    (λ i. field_below w (sum ws) (w + sum ws) n m (omega arith) e i ∷ unpacked-low ws n m less i)

-- what was packed comes out
pub unpack-packed : (ws xs : List ℕ) → length xs ≡ length ws → unpacked ws (packed ws xs) ≡ trimmed ws xs
unfolding unpacked packed trimmed field
unpack-packed [] xs e = refl
unpack-packed (w ∷ ws) [] e = absurd (suc-ne-zero (length ws) (sym e))
unpack-packed (w ∷ ws) (x ∷ xs) e =
    let n : ℕ = packed (w ∷ ws) (x ∷ xs) in
    let l : packed ws xs < 2 ^ sum ws = packed_lt ws xs in
    let first : n / 2 ^ sum ws % 2 ^ w ≡ x % 2 ^ w = ap (λ (y : ℕ). y % 2 ^ w) (high (x % 2 ^ w) (sum ws) l) ∙ mod-mod x (2 ^ w) in
    (λ i. first i ∷ (unpacked-low ws n (packed ws xs) (low (x % 2 ^ w) (sum ws) l ∙ sym (mod-eq_of_lt l)) ∙ unpack-packed ws xs (suc_inj e)) i)

-- what was unpacked goes in again
pub pack-unpacked : (ws : List ℕ) (n : ℕ) → packed ws (unpacked ws n) ≡ n % 2 ^ sum ws
unfolding unpacked packed sum field
pack-unpacked [] n = sym (mod-one n)
pack-unpacked (w ∷ ws) n = (λ i. mod-mod (n / 2 ^ sum ws) (2 ^ w) i * 2 ^ sum ws + pack-unpacked ws n i) ∙ sym (mod-pow-add n w (sum ws))

pub unpacked-length : (ws : List ℕ) (n : ℕ) → length (unpacked ws n) ≡ length ws
unfolding unpacked
unpacked-length [] n = refl
unpacked-length (w ∷ ws) n = ap suc (unpacked-length ws n)

pub unpacked-at : (ws : List ℕ) (n i : ℕ) → i < length ws → get_or (unpacked ws n) i 0 ≡ field (get_or ws i 0) (sum (drop (suc i) ws)) n
unfolding unpacked
unpacked-at [] n i h = absurd (not-suc-le-zero h)
unpacked-at (w ∷ ws) n zero h = refl
unpacked-at (w ∷ ws) n (suc i) h = unpacked-at ws n i (le_of_suc-le-suc h)

pub trimmed-same : (ws xs : List ℕ) → length xs ≡ length ws → ((i : ℕ) → i < length ws → get_or xs i 0 < 2 ^ get_or ws i 0) → trimmed ws xs ≡ xs
unfolding trimmed
trimmed-same [] [] e h = refl
trimmed-same [] (x ∷ xs) e h = absurd (suc-ne-zero (length xs) e)
trimmed-same (w ∷ ws) [] e h = absurd (suc-ne-zero (length ws) (sym e))
trimmed-same (w ∷ ws) (x ∷ xs) e h = (λ j. mod-eq_of_lt (h zero (zero-lt-suc (length ws))) j ∷ trimmed-same ws xs (suc_inj e) (λ i l. h (suc i) (suc-le-suc l)) j)
