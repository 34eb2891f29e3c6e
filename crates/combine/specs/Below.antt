-- Tests over the numbers below n, as computed definitions, with the laws that a proof of a loop cites.
--     all_below n f    f is true of each number below n
--     count_below n f  of how many numbers below n f is true
--     picked n f      the numbers below n of which f is true, rising
-- Assumes nothing.
use Rattle.std.specs.Prelude.{Bool, true, false, cond, ◌&&◌, List, [], ◌∷◌, ◌++◌, ℕ, zero, suc, ◌+◌}

-- how many of one test fail
abbrev pub failed : Bool → ℕ
failed true = 0
failed false = 1

unfoldable pub all_below : ℕ → (ℕ → Bool) → Bool
all_below zero f = true
all_below (suc n) f = all_below n f && f n

unfoldable pub count_below : ℕ → (ℕ → Bool) → ℕ
count_below zero f = 0
count_below (suc n) f = cond (f n) (count_below n f + 1) (count_below n f)

unfoldable pub picked : ℕ → (ℕ → Bool) → List ℕ
picked zero f = []
picked (suc n) f = cond (f n) (picked n f ++ (n ∷ [])) (picked n f)
