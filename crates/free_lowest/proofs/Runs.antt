-- A turn of the loop that goes through a row: what is left of the row, from `next` on, has the same end. Assumes nothing.
use Prim.Native.Nat.{ℕ, ◌+◌, ◌≤◌, ◌<◌}
use mathlib.Core.Path.{◌≡◌, refl, sym, ap, ◌∙◌}
use mathlib.Core.Bool.{Bool, true, false, cond}
use mathlib.Core.List.{List}
use native.Mathlib.Numerals.{add-one}
use native.Mathlib.Omega.{arith}
use mir.Val.{bool_byte}
use lib.Dec.{eqb}
use lib.ListN.{length, get_or, drop, drop_of_length-le}
use lib.Seq.{drop-cons}
use Rattle.combine.specs.Lists.{is_in}
use Rattle.free_lowest.specs.Run.{run_end, run_past}

moved-byte : (b : Bool) (n : ℕ) → cond b (n + 1) n ≡ n + bool_byte b
moved-byte true n = refl
moved-byte false n = omega arith

pub run-turn : (row : List ℕ) (passed next : ℕ) → passed < length row → run_end (drop passed row) next ≡ run_end (drop (passed + 1) row) (next + bool_byte (eqb (get_or row passed 0) next))
unfolding run_end
run-turn row passed next l =
    ap (λ (r : List ℕ). run_end r next) (drop-cons row passed 0 l)
    ∙ (λ j. run_end (drop (sym (add-one passed) j) row) (moved-byte (eqb (get_or row passed 0) next) next j))

pub run-done : (row : List ℕ) (passed next : ℕ) → length row ≤ passed → next ≡ run_end (drop passed row) next
unfolding run_end
run-done row passed next l = ap (λ (r : List ℕ). run_end r next) (sym (drop_of_length-le row {i = passed} l))

-- the search comes on, where the row lists the number
pub run-less : (row : List ℕ) (number r : ℕ) → r ≡ run_end row number → is_in number row ≡ true → number < r
run-less row number r e h = let p = run_past row number h in omega arith
