-- The row of a place. Assumes nothing.
use Prim.Native.Nat.{ℕ, ◌+◌, ◌-◌, ◌*◌}
use mathlib.Core.Path.{◌≡◌, ap}
use mathlib.Core.List.{List}
use native.Mathlib.Omega.{arith}
use lib.ListN.{take, drop}
use Rattle.combine.specs.Lists.{part}
use Rattle.tables.specs.Layout.{record_of, record_at}

pub row_at : (t : List ℕ) (p : ℕ) → record_of (take (1 + 50 * p + 50 - (1 + 50 * p)) (drop (1 + 50 * p) t)) ≡ record_at t p
unfolding record_at part
row_at t p =
    let n : 1 + 50 * p + 50 - (1 + 50 * p) ≡ 50 = omega arith in
    ap (λ (k : ℕ). record_of (take k (drop (1 + 50 * p) t))) n
