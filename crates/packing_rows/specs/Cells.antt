-- A row of cells is the cells of its number, and a cell is a field of 32 digits. Assumes nothing.
use Rattle.std.specs.Prelude.{◌≡◌, refl, List, [], ◌∷◌, ℕ, zero, suc, ◌+◌, ◌-◌, ◌*◌, ◌/◌, ◌%◌, ◌^◌, ◌≤◌, ◌<◌, length, get_or, take, drop, set}
use Rattle.std.proofs.Common.{sym, ap, ◌∙◌, subst, ⊎_elim, mod-eq_of_lt, mul-suc, not-suc-le-zero, le_of_suc-le-suc, arith, length-take, ext_get_or, get_or-take, get_or-drop, lit≤, lit<, pow-add}
use Rattle.std.proofs.Math.Nat.{mod-one}
use Rattle.std.proofs.Math.ListN.{get_or-eq_default}
use Rattle.std.proofs.Math.Arith.{digits_lt}
use Rattle.std.proofs.Math.Pow.{high, low}
use Rattle.std.proofs.lemmas.Nat.{mod-pow-add}
use Rattle.combine.specs.Laws.Numbers.{le-or-lt}
use Rattle.combine.specs.Lists.{part}
use Rattle.packing.specs.Packing.{field, row_of, cells_of}
use Rattle.packing.specs.Laws.Fields.{field_below}

-- each is a number of 32 digits
abbrev pub Cells : List ℕ → Type 0
Cells cs = (i : ℕ) → get_or cs i 0 < 2 ^ 32

pub pow-cells : (n : ℕ) → 2 ^ 32 * 2 ^ (32 * n) ≡ 2 ^ (32 * suc n)
pow-cells n = sym (pow-add 2 32 (32 * n)) ∙ ap (λ (y : ℕ). 2 ^ y) (omega (arith, mul-suc 32 n))

pub row_lt : (cs : List ℕ) → Cells cs → row_of cs < 2 ^ (32 * length cs)
unfolding row_of
row_lt [] h = lit≤ tt
row_lt (c ∷ cs) h = subst (λ (y : ℕ). row_of (c ∷ cs) < y) (pow-cells (length cs)) (digits_lt (h 0) (row_lt cs (λ i. h (suc i))))

-- a cell is a field of 32 digits
pub cell_field : (cs : List ℕ) (i : ℕ) → Cells cs → i < length cs → field 32 (32 * (length cs - suc i)) (row_of cs) ≡ get_or cs i 0
unfolding field row_of
cell_field [] i h l = absurd (not-suc-le-zero l)
cell_field (c ∷ cs) zero h l =
    let e : 32 * (suc (length cs) - suc zero) ≡ 32 * length cs = omega arith in
    ap (λ (y : ℕ). row_of (c ∷ cs) / 2 ^ y % 2 ^ 32) e ∙ ap (λ (y : ℕ). y % 2 ^ 32) (high c (32 * length cs) (row_lt cs (λ i. h (suc i)))) ∙ mod-eq_of_lt (h 0)
cell_field (c ∷ cs) (suc i) h l =
    let e : 32 * (suc (length cs) - suc (suc i)) ≡ 32 * (length cs - suc i) = omega arith in
    let l' : i < length cs = le_of_suc-le-suc l in
    let b : row_of cs < 2 ^ (32 * length cs) = row_lt cs (λ j. h (suc j)) in
    ap (λ (y : ℕ). field 32 y (row_of (c ∷ cs))) e
    ∙ field_below 32 (32 * (length cs - suc i)) (32 * length cs) (row_of (c ∷ cs)) (row_of cs) (omega arith) (low c (32 * length cs) b ∙ sym (mod-eq_of_lt b))
    ∙ cell_field cs i (λ j. h (suc j)) l'

-- a part of a row
pub part-cells : (l : List ℕ) (a n : ℕ) → Cells l → Cells (part l a n)
unfolding part
part-cells l a n h k = ⊎_elim outside inside (le-or-lt n k)
  where
    inside : k < n → get_or (take n (drop a l)) k 0 < 2 ^ 32
    inside q = rw (get_or-take n (drop a l) k 0 q, get_or-drop a l k 0) (h (a + k))

    outside : n ≤ k → get_or (take n (drop a l)) k 0 < 2 ^ 32
    outside p = rw (get_or-eq_default (take n (drop a l)) 0 {n = k} (omega (arith, length-take n (drop a l)))) (lit< tt)

-- a cell that is replaced
pub set-cells : (cs : List ℕ) (i v : ℕ) → Cells cs → v < 2 ^ 32 → Cells (set cs i v)
set-cells [] i v h k j = h j
set-cells (c ∷ cs) zero v h k zero = k
set-cells (c ∷ cs) zero v h k (suc j) = h (suc j)
set-cells (c ∷ cs) (suc i) v h k zero = h zero
set-cells (c ∷ cs) (suc i) v h k (suc j) = set-cells cs i v (λ n. h (suc n)) k j

-- ---- a row is its number's cells, and a number below 2 ^ (32 n) its n cells' row

pub length-cells_of : (n m : ℕ) → length (cells_of n m) ≡ n
unfolding cells_of
length-cells_of zero m = refl
length-cells_of (suc n) m = ap suc (length-cells_of n m)

pub row-cells : (cs : List ℕ) → Cells cs → cells_of (length cs) (row_of cs) ≡ cs
unfolding cells_of
row-cells cs h = ext_get_or 0 (cells_of (length cs) (row_of cs)) cs (length-cells_of (length cs) (row_of cs)) (λ i l. at (length cs) (row_of cs) i (subst (λ (y : ℕ). i < y) (length-cells_of (length cs) (row_of cs)) l) ∙ cell_field cs i h (subst (λ (y : ℕ). i < y) (length-cells_of (length cs) (row_of cs)) l))
  where
    at : (n m i : ℕ) → i < n → get_or (cells_of n m) i 0 ≡ field 32 (32 * (n - suc i)) m
    at zero m i l = absurd (not-suc-le-zero l)
    at (suc n) m zero l = ap (λ (y : ℕ). field 32 (32 * y) m) (omega arith)
    at (suc n) m (suc i) l = at n m i (le_of_suc-le-suc l) ∙ ap (λ (y : ℕ). field 32 (32 * y) m) (omega arith)

cells-mod : (n m : ℕ) → row_of (cells_of n m) ≡ m % 2 ^ (32 * n)
unfolding row_of cells_of field
cells-mod zero m = sym (mod-one m)
cells-mod (suc n) m =
    let e : 32 + 32 * n ≡ 32 * suc n = omega (arith, mul-suc 32 n) in
    (λ i. field 32 (32 * n) m * 2 ^ (32 * length-cells_of n m i) + cells-mod n m i) ∙ sym (mod-pow-add m 32 (32 * n)) ∙ ap (λ (y : ℕ). m % 2 ^ y) e

pub cells-row : (n m : ℕ) → m < 2 ^ (32 * n) → row_of (cells_of n m) ≡ m
cells-row n m h = cells-mod n m ∙ mod-eq_of_lt h
