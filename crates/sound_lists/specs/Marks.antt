-- Marks: a list m of 1,024 numbers, one for each segment; a segment is marked where its number is not 0. Assumes nothing.
use Rattle.std.specs.Prelude.{ℕ, zero, suc, ◌≡◌, Bool, not, cond, List, eqb, get_or, set}
use Rattle.combine.specs.Below.{count_below}
use Rattle.placing.specs.Sizes.{most_segments}

unfoldable pub is_marked : (marks : List ℕ) (segment : ℕ) → Bool
is_marked m s = not (eqb (get_or m s 0) 0)

-- how many marks stand
unfoldable pub standing : (marks : List ℕ) → ℕ
standing m = count_below most_segments (is_marked m)

-- they are counted by parts of so many
abbrev pub part_length : ℕ
part_length = 128

-- the marks after those of the segments f 0, f 1, .. f (n - 1) were set of which the test holds
unfoldable pub mark_those : (test : ℕ → Bool) (f : ℕ → ℕ) (marks : List ℕ) (n : ℕ) → List ℕ
mark_those test f m zero = m
mark_those test f m (suc n) = cond (test n) (set (mark_those test f m n) (f n) 1) (mark_those test f m n)

-- the marks m' after that, and how many were set
pub record Marked (test : ℕ → Bool) (f : ℕ → ℕ) (m : List ℕ) (n : ℕ) (m' : List ℕ) (c : ℕ) : Type 0 where
  pub after : m' ≡ mark_those test f m n
  pub set : c ≡ count_below n test
