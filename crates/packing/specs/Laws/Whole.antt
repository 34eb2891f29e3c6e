-- What the laws of Fields.antt come to at a width of 32: the element is the cell. Assumes nothing.
use Rattle.std.specs.Prelude.{ℕ, ◌%◌, ◌^◌, ◌<◌, ◌≡◌}
use Rattle.std.proofs.Common.{sym, ap, ◌∙◌, div-one, mod-eq_of_lt, arith}
use Rattle.packing.specs.Packing.{field, take_bits, put_bits}
use Rattle.packing.specs.Laws.Fields.{bits-same, bits-put-lt}

pub take_whole : (cell : ℕ) → cell < 2 ^ 32 → take_bits 32 0 cell ≡ cell
unfolding take_bits field
take_whole cell l = ap (λ (y : ℕ). y % 2 ^ 32) (div-one cell) ∙ mod-eq_of_lt l

pub put_whole : (cell x : ℕ) → cell < 2 ^ 32 → x < 2 ^ 32 → put_bits 32 0 cell x ≡ x
put_whole cell x l lx = sym (take_whole (put_bits 32 0 cell x) (bits-put-lt 32 0 cell x (omega arith) l)) ∙ bits-same 32 0 cell x ∙ mod-eq_of_lt lx
