-- A name in the first places of a row. Assumes nothing.
use Prim.Native.Nat.{ℕ, min, ◌≤◌, ◌<◌}
use mathlib.Core.Logic.{⊎_elim}
use mathlib.Core.Path.{◌≡◌}
use mathlib.Core.List.{◌++◌}
use native.Mathlib.Omega.{arith}
use lib.ListN.{length, take, drop, drop_of_length-le}
use lib.Seq.{take_all}
use Rattle.combine.specs.Laws.Numbers.{le-or-lt}
use Rattle.names.specs.Names.{Symbols, put_symbols}

-- as many symbols as the name and the row both have places for
pub put-shared : (name row : Symbols) (places : ℕ) → length name ≡ 12 → places ≡ min (length row) 12 → {put : Symbols} → put ≡ take places name → put ++ drop places row ≡ put_symbols name row
unfolding put_symbols
put-shared name row places twelve n {put} e = ⊎_elim enough few (le-or-lt 12 (length row))
  where
    enough : 12 ≤ length row → put ++ drop places row ≡ take (length row) name ++ drop (length name) row
    enough h =
        let p : places ≡ 12 = omega arith in
        rw (e, p, twelve, take_all 12 name (omega arith), take_all (length row) name (omega arith))

    few : length row < 12 → put ++ drop places row ≡ take (length row) name ++ drop (length name) row
    few h =
        let p : places ≡ length row = omega arith in
        rw (e, p, drop_of_length-le row {i = length row} (omega arith), drop_of_length-le row {i = length name} (omega arith))
