-- Numbers that are all zero, and cells that are. Assumes nothing.
use Rattle.std.specs.Prelude.{◌≡◌, refl, true, List, [], ◌∷◌, ℕ, zero, suc, ◌+◌, ◌*◌, ◌/◌, ◌%◌, ◌^◌, ◌<◌, eqb, length, get_or, replicate}
use Rattle.std.proofs.Common.{ap, ◌∙◌, zero-mul, arith, eqb-true}
use Rattle.std.proofs.Math.Nat.{zero-div, zero-mod}
use Rattle.combine.specs.Below.{all_below}
use Rattle.combine.specs.Laws.Below.{all-at}
use Rattle.packing.specs.Packing.{field, row_of, cells_of, sum, packed, unpacked}

field-zero : (w s : ℕ) → field w s 0 ≡ 0
unfolding field
field-zero w s = ap (λ (k : ℕ). k % 2 ^ w) (zero-div (2 ^ s)) ∙ zero-mod (2 ^ w)

packed-zeros : (ws : List ℕ) (n : ℕ) → packed ws (replicate n 0) ≡ 0
unfolding packed
packed-zeros [] n = refl
packed-zeros (w ∷ ws) zero = refl
packed-zeros (w ∷ ws) (suc n) = (λ j. zero-mod (2 ^ w) j * 2 ^ sum ws + packed-zeros ws n j) ∙ omega (arith, zero-mul (2 ^ sum ws))

cells-zero : (n : ℕ) → cells_of n 0 ≡ replicate n 0
unfolding cells_of
cells-zero zero = refl
cells-zero (suc n) = (λ j. field-zero 32 (32 * n) j ∷ cells-zero n j)

row-zeros : (n : ℕ) → row_of (replicate n 0) ≡ 0
unfolding row_of
row-zeros zero = refl
row-zeros (suc n) = omega (arith, row-zeros n, zero-mul (2 ^ (32 * length (replicate {A = ℕ} n 0))))

unpacked-zero : (ws : List ℕ) → unpacked ws 0 ≡ replicate (length ws) 0
unfolding unpacked
unpacked-zero [] = refl
unpacked-zero (w ∷ ws) = (λ j. field-zero w (sum ws) j ∷ unpacked-zero ws j)

-- ---- as a test of each says it

zeros : (l : List ℕ) → all_below (length l) (λ k. eqb (get_or l k 0) 0) ≡ true → l ≡ replicate (length l) 0
zeros l h = go l (λ k q. eqb-true (get_or l k 0) 0 (all-at _ (length l) h k q))
  where
    go : (l : List ℕ) → ((k : ℕ) → k < length l → get_or l k 0 ≡ 0) → l ≡ replicate (length l) 0
    go [] z = refl
    go (x ∷ l) z = (λ j. z 0 (omega arith) j ∷ go l (λ k q. z (suc k) (omega arith)) j)

pub pack-zeros : (ws xs : List ℕ) (n : ℕ) → all_below (length xs) (λ k. eqb (get_or xs k 0) 0) ≡ true → cells_of n (packed ws xs) ≡ replicate n 0
pack-zeros ws xs n h = ap (λ (l : List ℕ). cells_of n (packed ws l)) (zeros xs h) ∙ ap (cells_of n) (packed-zeros ws (length xs)) ∙ cells-zero n

pub unpack-zeros : (ws cs : List ℕ) (below : ℕ) → all_below (length cs) (λ k. eqb (get_or cs k 0) 0) ≡ true → unpacked ws (row_of cs / 2 ^ below) ≡ replicate (length ws) 0
unpack-zeros ws cs below h =
    ap (λ (l : List ℕ). unpacked ws (row_of l / 2 ^ below)) (zeros cs h) ∙ ap (λ (n : ℕ). unpacked ws (n / 2 ^ below)) (row-zeros (length cs))
    ∙ ap (unpacked ws) (zero-div (2 ^ below)) ∙ unpacked-zero ws
