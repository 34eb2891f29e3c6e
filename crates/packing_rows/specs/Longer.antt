-- Cells, widths, and numbers packed in them, one more at a time. Assumes nothing.
use Rattle.std.specs.Prelude.{◌≡◌, List, [], ◌∷◌, ◌++◌, ℕ, zero, suc, ◌+◌, ◌*◌, ◌%◌, ◌^◌, ◌≤◌, ◌<◌, length, get_or, take, drop}
use Rattle.std.proofs.Common.{sym, ap, ◌∙◌, ⊎_elim, add-mul, mul_assoc, mul_comm, suc-ne-zero, not-suc-le-zero, le_of_suc-le-suc, eq-or-lt_of_le, add-one, arith, length-append, take-suc, take_all, length-take-le, pow-add}
use Rattle.std.proofs.Math.Nat.{suc_inj}
use Rattle.packing.specs.Packing.{row_of, sum, packed}
use Rattle.packing_rows.specs.Cells.{pow-cells}
use Rattle.packing_rows.specs.Waiting.{Narrow}

-- ---- cells

row_snoc : (cs : List ℕ) (c : ℕ) → row_of (cs ++ (c ∷ [])) ≡ row_of cs * 2 ^ 32 + c
unfolding row_of
row_snoc [] c = omega arith
row_snoc (b ∷ cs) c =
    let n : length (cs ++ (c ∷ [])) ≡ suc (length cs) = length-append cs (c ∷ []) ∙ add-one (length cs) in
    let q : b * 2 ^ (32 * length (cs ++ (c ∷ []))) ≡ b * 2 ^ (32 * length cs) * 2 ^ 32 =
    ap (λ (k : ℕ). b * 2 ^ (32 * k)) n ∙ ap (λ (k : ℕ). b * k) (sym (pow-cells (length cs)) ∙ mul_comm (2 ^ 32) (2 ^ (32 * length cs)))
    ∙ sym (mul_assoc b (2 ^ (32 * length cs)) (2 ^ 32)) in
    omega (arith, q, row_snoc cs c, add-mul (b * 2 ^ (32 * length cs)) (row_of cs) (2 ^ 32))

pub row-suc : (cs : List ℕ) (i : ℕ) → i < length cs → row_of (take (i + 1) cs) ≡ row_of (take i cs) * 2 ^ 32 + get_or cs i 0
row-suc cs i h = ap (λ (k : ℕ). row_of (take k cs)) (add-one i) ∙ ap row_of (take-suc cs i 0 h) ∙ row_snoc (take i cs) (get_or cs i 0)

-- ---- widths

sum-snoc : (ws : List ℕ) (w : ℕ) → sum (ws ++ (w ∷ [])) ≡ sum ws + w
unfolding sum
sum-snoc [] w = omega arith
sum-snoc (v ∷ ws) w = omega (arith, sum-snoc ws w)

-- the widths of the first i, of the next and of those after it
pub sum-at : (ws : List ℕ) (i : ℕ) → i < length ws → sum (take i ws) + get_or ws i 0 + sum (drop (suc i) ws) ≡ sum ws
unfolding sum
sum-at [] i h = absurd (not-suc-le-zero h)
sum-at (w ∷ ws) zero h = omega arith
sum-at (w ∷ ws) (suc i) h = omega (arith, sum-at ws i (le_of_suc-le-suc h))

pub sum-suc : (ws : List ℕ) (i : ℕ) → i < length ws → sum (take (i + 1) ws) ≡ sum (take i ws) + get_or ws i 0
sum-suc ws i h = ap (λ (k : ℕ). sum (take k ws)) (add-one i) ∙ ap sum (take-suc ws i 0 h) ∙ sum-snoc (take i ws) (get_or ws i 0)

-- fewer digits, fewer widths; no width is nothing
pub sum-fewer : (ws : List ℕ) (i : ℕ) → i ≤ length ws → sum (take i ws) < sum ws → i < length ws
sum-fewer ws i l h =
    ⊎_elim (λ e. absurd (not-less (ap sum (take_all i ws (omega arith))))) (λ q. q) (eq-or-lt_of_le l)
  where
    not-less : sum (take i ws) ≡ sum ws → ⊥
    not-less e = omega arith

pub sum-whole : (ws : List ℕ) → Narrow ws → (i : ℕ) → i ≤ length ws → sum ws ≤ sum (take i ws) → i ≡ length ws
sum-whole ws h i l m = ⊎_elim (λ e. e) (λ q. absurd (more q)) (eq-or-lt_of_le l)
  where
    more : i < length ws → ⊥
    more q = omega (arith, sum-at ws i q, (h i q).0)

-- ---- numbers in their widths

packed-snoc : (ws xs : List ℕ) (w x : ℕ) → length xs ≡ length ws → packed (ws ++ (w ∷ [])) (xs ++ (x ∷ [])) ≡ packed ws xs * 2 ^ w + x % 2 ^ w
unfolding packed sum
packed-snoc [] [] w x e = omega arith
packed-snoc [] (y ∷ xs) w x e = absurd (suc-ne-zero (length xs) e)
packed-snoc (v ∷ ws) [] w x e = absurd (suc-ne-zero (length ws) (sym e))
packed-snoc (v ∷ ws) (y ∷ xs) w x e =
    let p : ℕ = y % 2 ^ v in
    let q : p * 2 ^ sum (ws ++ (w ∷ [])) ≡ p * 2 ^ sum ws * 2 ^ w =
    ap (λ (k : ℕ). p * 2 ^ k) (sum-snoc ws w) ∙ ap (λ (k : ℕ). p * k) (pow-add 2 (sum ws) w) ∙ sym (mul_assoc p (2 ^ sum ws) (2 ^ w)) in
    omega (arith, q, packed-snoc ws xs w x (suc_inj e), add-mul (p * 2 ^ sum ws) (packed ws xs) (2 ^ w))

pub packed-suc : (ws xs : List ℕ) (i : ℕ) → length xs ≡ length ws → i < length ws → packed (take (i + 1) ws) (take (i + 1) xs) ≡ packed (take i ws) (take i xs) * 2 ^ get_or ws i 0 + get_or xs i 0 % 2 ^ get_or ws i 0
packed-suc ws xs i e h =
    let h' : i < length xs = omega arith in
    ap (λ (k : ℕ). packed (take k ws) (take k xs)) (add-one i) ∙ (λ j. packed (take-suc ws i 0 h j) (take-suc xs i 0 h' j))
    ∙ packed-snoc (take i ws) (take i xs) (get_or ws i 0) (get_or xs i 0) (length-take-le i xs (omega arith) ∙ sym (length-take-le i ws (omega arith)))
