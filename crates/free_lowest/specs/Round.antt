-- Places that go round: after the last of n comes the first. So the search scans the rows, from the row of the last mention on. Assumes nothing.
use Rattle.std.specs.Prelude.{ℕ, ◌+◌, ◌-◌, ◌≤◌, ◌<◌, ◌≡◌, Bool, true, cond, ltb}
use Rattle.std.proofs.Common.{sym, ap, ◌∙◌, ⊎_elim, arith, lt-ltb, le-ltb}
use Rattle.combine.specs.Below.{all_below}
use Rattle.combine.specs.Laws.Below.{all-at, all-make}
use Rattle.combine.specs.Laws.Numbers.{le-or-lt}

-- the place x, of which those from n on stand for the first again
unfoldable pub wrapped : ℕ → ℕ → ℕ
wrapped n x = cond (ltb x n) x (x - n)

module _ (n x : ℕ) where
  pub wrapped-before : x < n → wrapped n x ≡ x
  unfolding wrapped
  wrapped-before l = simp (lt-ltb x n l)

  pub wrapped-after : n ≤ x → wrapped n x ≡ x - n
  unfolding wrapped
  wrapped-after l = simp (le-ltb x n l)

  pub wrapped-low : x < n + n → wrapped n x < n
  wrapped-low l =
      ⊎_elim (λ h. let e = wrapped-after h in omega arith) (λ h. let e = wrapped-before h in omega arith) (le-or-lt n x)

module _ (n first : ℕ) where
  -- of no place, the first is place 0
  pub round-start : first ≤ n - 1 → first ≡ wrapped n (first + 0)
  round-start l =
      ⊎_elim (λ h. let e = wrapped-after n (first + 0) h in omega arith) (λ h. let e = wrapped-before n (first + 0) h in omega arith) (le-or-lt n (first + 0))

  pub round-turn : (k : ℕ) → first < n → k < n → wrapped n (wrapped n (first + k) + 1) ≡ wrapped n (first + (k + 1))
  round-turn k lf lk = ⊎_elim again on (le-or-lt n (first + k))
    where
      again : n ≤ first + k → wrapped n (wrapped n (first + k) + 1) ≡ wrapped n (first + (k + 1))
      again h =
          let e = wrapped-after n (first + k) h in
          let a = wrapped-before n (wrapped n (first + k) + 1) (omega arith) in
          let b = wrapped-after n (first + (k + 1)) (omega arith) in
          omega arith

      on : first + k < n → wrapped n (wrapped n (first + k) + 1) ≡ wrapped n (first + (k + 1))
      on h =
          let e = wrapped-before n (first + k) h in
          let s : wrapped n (first + k) + 1 ≡ first + (k + 1) = omega arith in
          ap (wrapped n) s

  -- n places on from the first are all places
  pub round-all : (f : ℕ → Bool) → first ≤ n → all_below n (λ k. f (wrapped n (first + k))) ≡ true → all_below n f ≡ true
  round-all f l h = all-make f n (λ q lq. ⊎_elim (behind q lq) (before q lq) (le-or-lt first q))
    where
      behind : (q : ℕ) → q < n → first ≤ q → f q ≡ true
      behind q lq m =
          let k : ℕ = q - first in
          let b = wrapped-before n (first + k) (omega arith) in
          let e : wrapped n (first + k) ≡ q = omega arith in
          ap f (sym e) ∙ all-at _ n h k (omega arith)

      before : (q : ℕ) → q < n → q < first → f q ≡ true
      before q lq m =
          let k : ℕ = q + n - first in
          let b = wrapped-after n (first + k) (omega arith) in
          let e : wrapped n (first + k) ≡ q = omega arith in
          ap f (sym e) ∙ all-at _ n h k (omega arith)
