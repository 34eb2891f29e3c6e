-- Fields that fill a row of cells whole. Assumes nothing.
use Rattle.std.specs.Prelude.{◌≡◌, List, ℕ, ◌*◌, ◌^◌, ◌<◌, length, get_or}
use Rattle.std.proofs.Common.{sym, ap, ◌∙◌, mod-eq_of_lt}
use Rattle.packing.specs.Packing.{row_of, cells_of, sum, packed, unpacked}
use Rattle.packing_rows.specs.Cells.{Cells, row_lt, row-cells, cells-row}
use Rattle.packing_rows.specs.Pack.{packed_lt, unpack-packed, pack-unpacked, trimmed-same}

-- ---- numbers in their widths, which fill n cells: packing and unpacking are each other's inverse there

module _ (ws : List ℕ) (n : ℕ) (full : sum ws ≡ 32 * n) where
  pub packed-back : (xs : List ℕ) → length xs ≡ length ws → ((i : ℕ) → i < length ws → get_or xs i 0 < 2 ^ get_or ws i 0) → unpacked ws (row_of (cells_of n (packed ws xs))) ≡ xs
  packed-back xs l h =
      ap (unpacked ws) (cells-row n (packed ws xs) (rw (← full) (packed_lt ws xs))) ∙ unpack-packed ws xs l ∙ trimmed-same ws xs l h

  pub cells-back : (cs : List ℕ) → Cells cs → length cs ≡ n → cells_of n (packed ws (unpacked ws (row_of cs))) ≡ cs
  cells-back cs h l =
      let b : row_of cs < 2 ^ sum ws = rw (full, ← l) (row_lt cs h) in
      ap (cells_of n) (pack-unpacked ws (row_of cs) ∙ mod-eq_of_lt b) ∙ ap (λ (k : ℕ). cells_of k (row_of cs)) (sym l) ∙ row-cells cs h
