-- Lists of numbers below n: a part of one, and one with a number put into it. Assumes nothing.
use Rattle.std.specs.Prelude.{ℕ, ◌+◌, ◌≤◌, ◌<◌, ◌≡◌, ◌≢◌, List, length, get_or, take, drop}
use Rattle.std.proofs.Common.{arith, ⊎_elim, length-take, length-drop, get_or-take, get_or-drop}
use Rattle.std.proofs.Math.Decide.{ℕ_discrete}
use Rattle.combine.specs.Lists.{put}
use Rattle.combine.specs.Laws.Numbers.{le-or-lt}
use Rattle.combine.specs.Laws.Put.{get_or-put-same, get_or-put-other}
use Rattle.combine.specs.Laws.Replaced.{length-put-in, length-put-end}

abbrev pub InRange : ℕ → List ℕ → Type 0
InRange n l = (k : ℕ) → k < length l → get_or l k 0 < n

pub range-take : (n m : ℕ) (l : List ℕ) → InRange n l → InRange n (take m l)
range-take n m l r k h =
    let e = length-take m l in
    rw (get_or-take m l k 0 (omega arith)) (r k (omega arith))

pub range-drop : (n m : ℕ) (l : List ℕ) → InRange n l → InRange n (drop m l)
range-drop n m l r k h =
    let e = length-drop m l in
    rw (get_or-drop m l k 0) (r (m + k) (omega arith))

-- another place of a list with a number put into it was there before
pub put-inside : (l : List ℕ) (j g k : ℕ) → j ≤ length l → k < length (put l j g) → k ≢ j → k < length l
put-inside l j g k h w d = ⊎_elim
    (λ p. omega (arith, d, length-put-end l j g p))
    (λ p. omega (arith, length-put-in l j g p))
    (le-or-lt (length l) j)

pub range-put : (n : ℕ) (l : List ℕ) (j g : ℕ) → j ≤ length l → InRange n l → g < n → InRange n (put l j g)
range-put n l j g h r small k w = go (ℕ_discrete k j)
  where
    go : Dec (k ≡ j) → get_or (put l j g) k 0 < n
    go (yes e) = rw e (rw (get_or-put-same l j g 0 h) small)
    go (no d) = rw (get_or-put-other l j k g 0 h d) (r k (put-inside l j g k h w d))
